-- Frames that are answered one after another.
use Rattle.std.proofs.Common.{◌≡◌, ℕ, ◌+◌, ◌-◌, ◌<◌, ◌≤◌, Bool, true, false, List, [], ◌∷◌, ◌++◌, length, Option, None, Some, Result, Ok, Err, append_assoc, length-append, sym, ◌∙◌, ap, refl, subst, arith, inl, inr}
use Rattle.std.proofs.lemmas.List.{append-nil}
use Rattle.std.proofs.lemmas.List.Concat.{flat_map-append}
use Rattle.std.proofs.KnownBytes.{Appends-trans, Appends-kept, Appends-nil, Consumes-trans, Consumes-kept, Consumes-nil}
use Rattle.std.specs.Io.KnownBytes.{Appends, Keeps, Consumes, prepend_known}
use Rattle.std.specs.List.{flat_map, AllByRecursion}
use Rattle.modbus_frame.specs.declared.frame.Frame.{Frame}
use Rattle.modbus_frame.specs.declared.link.LinkFault.{LinkFault}
use Rattle.modbus_frame.specs.declared.link.LinkFault.TheVariants as link
use Rattle.modbus_frame.specs.Exchange.{CountsSent, CountsReceived, ReadsNext, HoldsRest, left}
use Rattle.modbus_frame.specs.Frame.{frame_bytes, IsFrame, IsRest}
use Rattle.modbus_frame.specs.Framing.{empty}
use Rattle.modbus_frame.specs.Held.{Held}
use Rattle.modbus_frame.specs.Link.{LinkState, Failures, CountsBy, CountsCalls, FailsBy, FailsWith, most_calls}
use Rattle.modbus_frame.specs.Reading.{Reading}
use Rattle.modbus_frame.specs.Served.{Answered}
use Rattle.modbus_frame.specs.Serving.{HasServed, Serves, Replies, ComesNext, IsInPart, CameInPart, EndsReading, EndsReplying, GoesOn}
use Rattle.modbus_frame.proofs.Sending.{CountsBy-none, CountsBy-trans, FailsBy-none, FailsBy-then}
use Rattle.modbus_frame.proofs.Streams.{AllByRecursion-more as each_more}

module _ {S : Type 0} (Answers : S → Frame → List ℕ → S → Type 0) where
  pub Answered-more : (state : S) (frames : List Frame) (sent : List ℕ) (middle : S) (frame : Frame) (bytes : List ℕ) (end : S) → Answered Answers state frames sent middle → Answers middle frame bytes end → Answered Answers state (frames ++ frame ∷ []) (sent ++ bytes) end
  Answered-more state [] sent middle frame bytes end so_far one =
      let P : S → Type 0 = λ s. Answers s frame bytes end in
      (bytes, [], end, subst P so_far.1 one, ap (λ l. l ++ bytes) so_far.0 ∙ sym (append-nil bytes), (refl, refl))
  Answered-more state (first ∷ frames) sent middle frame bytes end so_far one =
      (so_far.0, so_far.1 ++ bytes, so_far.2, so_far.3, ap (λ l. l ++ bytes) so_far.4 ∙ append_assoc so_far.0 so_far.1 bytes, Answered-more so_far.2 frames so_far.1 middle frame bytes end so_far.5 one)

-- ---- one frame more

pub came_more : (a b c : Option (List ℕ)) (frames : List Frame) (frame : Frame)
    → Consumes a b (flat_map frame_bytes frames) → Consumes b c (frame_bytes frame) → Consumes a c (flat_map frame_bytes (frames ++ frame ∷ []))
came_more a b c frames frame first second =
    subst (Consumes a c) (sym (flat_map-append frame_bytes frames (frame ∷ []) ∙ ap (λ l. flat_map frame_bytes frames ++ l) (append-nil (frame_bytes frame)))) (Consumes-trans a b c _ _ first second)

appends_later : (a b c : Option (List ℕ)) (bytes : List ℕ) → Keeps a b → Appends b c bytes → Appends a c bytes
appends_later a b c bytes kept later = Appends-trans a b c [] bytes (Appends-kept a a b [] (Appends-nil a) kept) later

-- what is left of a stream stays with what is to come
pub keeps_left : (bytes : List ℕ) (a b : Option (List ℕ)) → Keeps a b → Keeps (prepend_known bytes a) (prepend_known bytes b)
keeps_left bytes None b kept = tt
keeps_left bytes (Some x) None kept = kept
keeps_left bytes (Some x) (Some y) kept = ap (λ l. bytes ++ l) kept

-- a reader that has read nothing
pub nothing_read : (a : Option (List ℕ)) → Keeps a (prepend_known [] a)
nothing_read None = tt
nothing_read (Some x) = refl

-- ---- what one read says

-- What one read of a frame does to a link and its reader.
pub record ReadsOne (b c : LinkState) (r q : Reading) (result : Result (Option Frame) LinkFault) (turns spent : ℕ) : Type 0 where
  pub reads : ReadsNext (left r b.coming) (left q c.coming) result q
  pub keeps : Keeps b.sent c.sent
  pub failures : CountsReceived b.failures c.failures result spent
  pub calls : CountsBy (turns - spent) b.calls c.calls
  pub within : spent ≤ turns

-- the bytes that a reader holds are less than a frame
pub is_in_part : (stream : Option (List ℕ)) (q : Reading) (coming : Option (List ℕ)) → Keeps stream (left q coming) → HoldsRest q → IsInPart stream ((q.held).kept ++ q.unfed) coming
is_in_part stream q coming kept holds =
    let P : List ℕ → Type 0 = IsRest in
    let kept_only : (q.held).kept ++ q.unfed ≡ (q.held).kept = ap (λ l. (q.held).kept ++ l) holds.2 ∙ append-nil (q.held).kept in
    (subst P (sym kept_only) holds.0, kept)

came_in_part : (stream : Option (List ℕ)) (q : Reading) (coming : Option (List ℕ)) → Keeps stream (left q coming) → HoldsRest q → CameInPart stream coming
came_in_part stream q coming kept holds = ((q.held).kept ++ q.unfed, is_in_part stream q coming kept holds)

ends_reading : (e : LinkFault) (stream : Option (List ℕ)) (q : Reading) (coming : Option (List ℕ)) → ReadsNext stream (left q coming) (Err e) q → EndsReading e stream coming
ends_reading link.Read stream q coming reads = came_in_part stream q coming reads.0 reads.1
ends_reading link.Write stream q coming reads = absurd reads
ends_reading (link.Frame f) stream q coming reads = reads.0
ends_reading link.End stream q coming reads = (reads.0, came_in_part stream q coming reads.1 reads.2)
ends_reading link.Turns stream q coming reads = came_in_part stream q coming reads.0 reads.1
ends_reading link.OutOfMemory stream q coming reads = absurd reads

comes_next : (stream now then : Option (List ℕ)) (q : Reading) (frame : Frame) → ReadsNext stream (left q now) (Ok (Some frame)) q → Keeps now then → ComesNext stream frame then
comes_next stream now then q frame reads kept =
    let P : Held → Type 0 = λ h. Consumes stream (prepend_known (h.kept ++ q.unfed) then) (frame_bytes frame) in
    record {
      is_frame = reads.0;
      ahead = q.unfed;
      few = reads.3;
      came = subst P reads.2 (Consumes-kept stream (left q now) (left q then) (frame_bytes frame) reads.1 (keeps_left ((q.held).kept ++ q.unfed) now then kept));
    }

pub failed_reading : (a b c : Failures) (e : LinkFault) (turns : ℕ) → FailsBy 0 0 0 a b → CountsReceived b c (Err e) turns → FailsWith e a c
failed_reading a b c link.Read turns first second = FailsBy-then 1 0 0 a b c first second
failed_reading a b c link.Write turns first second = absurd second
failed_reading a b c (link.Frame f) turns first second = FailsBy-then 0 0 0 a b c first second
failed_reading a b c link.End turns first second = FailsBy-then 0 0 1 a b c first second
failed_reading a b c link.Turns turns first second = FailsBy-then 0 0 0 a b c first second.0
failed_reading a b c link.OutOfMemory turns first second = absurd second

pub failed_sending : (a b c : Failures) (e : LinkFault) (turns : ℕ) → FailsBy 0 0 0 a b → CountsSent b c (Err e) turns → FailsWith e a c
failed_sending a b c link.Read turns first second = absurd second
failed_sending a b c link.Write turns first second = FailsBy-then 0 1 0 a b c first second
failed_sending a b c (link.Frame f) turns first second = absurd second
failed_sending a b c link.End turns first second = absurd second
failed_sending a b c link.Turns turns first second = FailsBy-then 0 0 0 a b c first second.0
failed_sending a b c link.OutOfMemory turns first second = absurd second

ends_replying : (e : LinkFault) (a b : Failures) (turns : ℕ) → CountsSent a b (Err e) turns → EndsReplying e
ends_replying link.Read a b turns counts = absurd counts
ends_replying link.Write a b turns counts = tt
ends_replying (link.Frame f) a b turns counts = absurd counts
ends_replying link.End a b turns counts = absurd counts
ends_replying link.Turns a b turns counts = tt
ends_replying link.OutOfMemory a b turns counts = absurd counts

-- ---- turns

pub no_turns_reading : (b c : Failures) (e : LinkFault) (turns : ℕ) → CountsReceived b c (Err e) turns → e ≡ link.Turns → turns ≡ 0
no_turns_reading b c link.Turns turns counts is = counts.1
no_turns_reading b c link.Read turns counts is = absurd (cc)
no_turns_reading b c link.Write turns counts is = absurd (cc)
no_turns_reading b c (link.Frame f) turns counts is = absurd (cc)
no_turns_reading b c link.End turns counts is = absurd (cc)
no_turns_reading b c link.OutOfMemory turns counts is = absurd (cc)

pub no_turns_sending : (b c : Failures) (e : LinkFault) (turns : ℕ) → CountsSent b c (Err e) turns → e ≡ link.Turns → turns ≡ 0
no_turns_sending b c link.Turns turns counts is = counts.1
no_turns_sending b c link.Read turns counts is = absurd (cc)
no_turns_sending b c link.Write turns counts is = absurd (cc)
no_turns_sending b c (link.Frame f) turns counts is = absurd (cc)
no_turns_sending b c link.End turns counts is = absurd (cc)
no_turns_sending b c link.OutOfMemory turns counts is = absurd (cc)

-- turns that are used up are calls
all_calls : (a b : Option ℕ) (result : Result ℕ LinkFault) (turns : ℕ) → CountsBy (most_calls - turns) a b → (result ≡ Err link.Turns → turns ≡ 0) → CountsCalls a b result
all_calls a b result turns counts none = (most_calls - turns, omega arith, counts, λ is. omega (arith, none is))

-- the calls so far, and those of one more read or reply
pub calls_more : (a b c : Option ℕ) (most turns spare : ℕ) → CountsBy (most - turns) a b → CountsBy (turns - spare) b c → turns ≤ most → spare ≤ turns → CountsBy (most - spare) a c
calls_more a b c most turns spare first second more less = CountsBy-trans (most - turns) (turns - spare) (most - spare) a b c first second (omega (arith, more, less))

-- ---- many frames

module _ {S : Type 0} (Answers : S → Frame → List ℕ → Bool → S → Type 0) where
  -- Frames were answered, and nothing went wrong.
  pub record ServedSoFar (a b : LinkState) (s t : S) (r : Reading) (served turns : ℕ) : Type 0 where
    pub done : HasServed Answers a.coming (left r b.coming) a.sent b.sent s t
    pub failures : FailsBy 0 0 0 a.failures b.failures
    pub calls : CountsBy (most_calls - turns) a.calls b.calls
    pub number : served ≡ length done.frames
    pub within : served + turns ≤ most_calls
    pub fresh : (r.held).fault ≡ None

  pub served_none : (coming stream sent : Option (List ℕ)) (s : S) → Keeps coming stream → HasServed Answers coming stream sent sent s s
  served_none coming stream sent s kept = record {
    frames = [];
    out = [];
    each = tt;
    answered = (refl, refl);
    came = Consumes-kept coming coming stream [] (Consumes-nil coming) kept;
    went = Appends-nil sent;
  }

  pub served_start : (a : LinkState) (s : S) (r : Reading) → r ≡ record { held = empty; unfed = [] } → ServedSoFar a a s s r 0 most_calls
  unfolding served_none
  served_start a s r start =
      let P : Reading → Type 0 = λ q. ServedSoFar a a s s q 0 most_calls in
      subst P (sym start) (record {
        done = served_none a.coming (left (record { held = empty; unfed = [] }) a.coming) a.sent s (nothing_read a.coming);
        failures = FailsBy-none a.failures;
        calls = CountsBy-none a.calls;
        number = refl;
        within = omega arith;
        fresh = refl;
      })

  done_kept : (coming stream sent now then : Option (List ℕ)) (s t : S) → HasServed Answers coming stream sent now s t → Keeps now then → HasServed Answers coming stream sent then s t
  done_kept coming stream sent now then s t done kept = record {
    frames = done.frames;
    out = done.out;
    each = done.each;
    answered = done.answered;
    came = done.came;
    went = Appends-kept sent now then done.out done.went kept;
  }

  -- a frame more is answered, and more may be
  pub served_more : (a b c d : LinkState) (s t u : S) (r q : Reading) (served turns spent spare : ℕ) (frame : Frame)
      → ServedSoFar a b s t r served turns → ReadsOne b c r q (Ok (Some frame)) turns spent → Replies Answers c d t frame u (Ok true) spent spare
      → ServedSoFar a d s u q (served + 1) spare
  served_more a b c d s t u r q served turns spent spare frame so_far read one =
      let P : Bool → Type 0 = λ more. Answers t frame one.bytes more u in
      let done = so_far.done in
      let less : spare < spent = (one.sends).used (one.some (sym one.tells)) in
      let called : CountsBy (turns - spare) b.calls d.calls = CountsBy-trans (turns - spent) (spent - spare) (turns - spare) b.calls c.calls d.calls read.calls (one.sends).called (omega (arith, read.within, (one.sends).within)) in
      record {
        done = record {
          frames = done.frames ++ frame ∷ [];
          out = done.out ++ one.bytes;
          each = each_more done.frames frame done.each (read.reads).0;
          answered = Answered-more (GoesOn Answers) s done.frames done.out t frame one.bytes u done.answered (subst P (sym one.tells) one.answers);
          came = Consumes-kept a.coming (left q c.coming) (left q d.coming) _ (came_more a.coming (left r b.coming) (left q c.coming) done.frames frame done.came (read.reads).1) (keeps_left ((q.held).kept ++ q.unfed) c.coming d.coming (one.sends).keeps);
          went = Appends-trans a.sent b.sent d.sent done.out one.bytes done.went (appends_later b.sent c.sent d.sent one.bytes read.keeps (one.sends).sends);
        };
        failures = FailsBy-then 0 0 0 a.failures b.failures d.failures so_far.failures (FailsBy-then 0 0 0 b.failures c.failures d.failures read.failures (one.sends).failed);
        calls = calls_more a.calls b.calls d.calls most_calls turns spare so_far.calls called (omega (arith, so_far.within)) (omega (arith, read.within, less));
        number = ap (λ n. n + 1) so_far.number ∙ sym (length-append done.frames (frame ∷ []));
        within = omega (arith, so_far.within, read.within, less);
        fresh = ap (λ (h : Held). h.fault) (read.reads).2;
      }

  -- the stream ended after the last frame
  pub serves_all : (a b c : LinkState) (s t : S) (r q : Reading) (served turns spent : ℕ)
      → ServedSoFar a b s t r served turns → ReadsOne b c r q (Ok None) turns spent → Serves Answers a c s t (Ok served)
  unfolding done_kept
  serves_all a b c s t r q served turns spent so_far read = inl (record {
    left = left r b.coming;
    done = done_kept a.coming (left r b.coming) a.sent b.sent c.sent s t so_far.done read.keeps;
    ended = (read.reads).0;
    failures = FailsBy-then 0 0 1 a.failures b.failures c.failures so_far.failures read.failures;
    number = so_far.number;
  })

  -- no more may be answered
  pub serves_last : (a b c d : LinkState) (s t u : S) (r q : Reading) (served turns spent spare : ℕ) (frame : Frame)
      → ServedSoFar a b s t r served turns → ReadsOne b c r q (Ok (Some frame)) turns spent → Replies Answers c d t frame u (Ok false) spent spare
      → Serves Answers a d s u (Ok (served + 1))
  unfolding done_kept
  serves_last a b c d s t u r q served turns spent spare frame so_far read one =
      let P : Bool → Type 0 = λ more. Answers t frame one.bytes more u in
      inr (record {
        left = left r b.coming;
        now = c.sent;
        middle = t;
        done = done_kept a.coming (left r b.coming) a.sent b.sent c.sent s t so_far.done read.keeps;
        frame = frame;
        next = comes_next (left r b.coming) c.coming d.coming q frame read.reads (one.sends).keeps;
        bytes = one.bytes;
        answers = subst P (sym one.tells) one.answers;
        went = (one.sends).sends;
        failures = FailsBy-then 0 0 0 a.failures b.failures d.failures so_far.failures (FailsBy-then 0 0 0 b.failures c.failures d.failures read.failures (one.sends).failed);
        number = ap (λ n. n + 1) so_far.number;
      })

  -- no frame more came
  pub stops_reading : (a b c : LinkState) (s t : S) (r q : Reading) (served turns spent : ℕ) (e : LinkFault)
      → ServedSoFar a b s t r served turns → ReadsOne b c r q (Err e) turns spent → Serves Answers a c s t (Err e)
  stops_reading a b c s t r q served turns spent e so_far read = inl (record {
    left = left r b.coming;
    done = done_kept a.coming (left r b.coming) a.sent b.sent c.sent s t so_far.done read.keeps;
    ends = ends_reading e (left r b.coming) q c.coming read.reads;
    failures = failed_reading a.failures b.failures c.failures e spent so_far.failures read.failures;
  })

  -- a reply couldn't be sent as a whole
  pub stops_replying : (a b c d : LinkState) (s t u : S) (r q : Reading) (served turns spent spare : ℕ) (frame : Frame) (e : LinkFault)
      → ServedSoFar a b s t r served turns → ReadsOne b c r q (Ok (Some frame)) turns spent → Replies Answers c d t frame u (Err e) spent spare
      → Serves Answers a d s u (Err e)
  stops_replying a b c d s t u r q served turns spent spare frame e so_far read one = inr (record {
    left = left r b.coming;
    now = c.sent;
    middle = t;
    done = done_kept a.coming (left r b.coming) a.sent b.sent c.sent s t so_far.done read.keeps;
    frame = frame;
    next = comes_next (left r b.coming) c.coming d.coming q frame read.reads (one.sends).keeps;
    bytes = one.bytes;
    goes_on = one.goes_on;
    answers = one.answers;
    len = ((one.sends).sends).0;
    front = ((one.sends).sends).1;
    went = ((one.sends).sends).2;
    cause = ends_replying e c.failures d.failures spare (one.sends).failed;
    failures = failed_sending a.failures c.failures d.failures e spare (FailsBy-then 0 0 0 a.failures b.failures c.failures so_far.failures read.failures) (one.sends).failed;
  })

  -- ---- the calls

  -- of a read that ended the work
  pub calls_reading : (a b : LinkState) (calls : Option ℕ) (s t : S) (r : Reading) (served turns spent : ℕ) (result : Result ℕ LinkFault)
      → ServedSoFar a b s t r served turns → CountsBy (turns - spent) b.calls calls → spent ≤ turns → (result ≡ Err link.Turns → spent ≡ 0) → CountsCalls a.calls calls result
  calls_reading a b calls s t r served turns spent result so_far called within none =
      all_calls a.calls calls result spent (calls_more a.calls b.calls calls most_calls turns spent so_far.calls called (omega (arith, so_far.within)) within) none

  -- of a reply that ended it
  pub calls_replying : (a b : LinkState) (middle calls : Option ℕ) (s t : S) (r : Reading) (served turns spent spare : ℕ) (result : Result ℕ LinkFault)
      → ServedSoFar a b s t r served turns → CountsBy (turns - spent) b.calls middle → spent ≤ turns → CountsBy (spent - spare) middle calls → spare ≤ spent → (result ≡ Err link.Turns → spare ≡ 0) → CountsCalls a.calls calls result
  calls_replying a b middle calls s t r served turns spent spare result so_far first more second less none =
      let called : CountsBy (turns - spare) b.calls calls = CountsBy-trans (turns - spent) (spent - spare) (turns - spare) b.calls middle calls first second (omega (arith, more, less)) in
      calls_reading a b calls s t r served turns spare result so_far called (omega (arith, more, less)) none
