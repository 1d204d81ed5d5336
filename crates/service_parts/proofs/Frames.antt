-- Steps of what goes out over a connection.
use Rattle.std.proofs.Common.{◌≡◌, ◌≢◌, ◌⊎◌, inl, inr, ℕ, zero, suc, eqb, Bool, true, false, List, [], ◌∷◌, ◌++◌, take, drop, length, Option, None, Some, slice_get, set, refl, sym, ap, subst, ◌∙◌, append_assoc, arith, ◌+◌, ◌≤◌, if◌then◌else◌}
use Rattle.std.specs.Prelude.{IsTrue, is_none, not, min, nat_le, ◌&&◌, ◌==◌}
use Rattle.std.specs.List.{flat_map}
use Rattle.std.proofs.Math.Logic.{∥∥₁_elim, ∥∥₁_prop}
use Rattle.std.proofs.lemmas.Bool.{eq-eqb, eqb-true}
use Rattle.std.proofs.lemmas.Bool.Decides.{eqb_tells}
use Rattle.std.proofs.lemmas.List.{append-nil, take-append-drop}
use Rattle.modbus_frame.specs.Frame.{frame_bytes}
use Rattle.gateway.specs.poller.LinkRun.{Asked as Request, frame_of, next_id}
use Rattle.service_requests.specs.declared.request_end.RequestEnd.{RequestEnd}
use Rattle.service_parts.specs.declared.device_connection.DeviceConnection.{DeviceConnection}
use Rattle.service_requests.specs.declared.task.Task.{Task}
use Rattle.service_parts.specs.declared.asked.Aim.{Aim}
use Rattle.service_parts.specs.declared.asked.Asked.{Asked}
use Rattle.service_parts.specs.Frames.{AnsweredLinesHaveNoBackOff, AreNumbered, Begins, CourseBy, FramesGoOutWhole, GivesUp, GoesDown, HearingStep, IsLed, IsSending, IsUnwaited, Keeps, LinesGo, LinesGoAt, LinkGoes, OthersGo, OwnStep, RequestsHaveTheirTime, Sends, StaysLinked, TakesDue, begins, begun, begun_by, dialled, dials, due_at, gives_up, goes, is_idle, keeps, stays, times_asked}
use Rattle.service_parts.specs.Answering.{answers}
use Rattle.service_parts.specs.Backing.{longer}
use Rattle.service_parts.specs.Overdue.{IsTimed, is_left, is_over}
use Rattle.service_parts.specs.declared.limits.Limits.{Limits}

pub keeps_by : (old new : DeviceConnection) → new.asked ≡ old.asked → new.pending ≡ old.pending → new.id ≡ old.id → new.out.items ≡ old.out.items → (old.is_bad ≡ true → new.is_bad ≡ true) → new.is_up ≡ old.is_up → new.is_heard ≡ old.is_heard → new.dial_until ≡ old.dial_until → new.dial_at ≡ old.dial_at → new.wait ≡ old.wait → Keeps old new
keeps_by old new asked heard next same bad up answered until dial wait = record {
  still = asked;
  heard = heard;
  next = next;
  same = same;
  bad = bad;
  linked = record { up = up; answered = answered; until = until; dial = dial; wait = wait };
}

-- ---- a place of a list

some_same : {X : Type 0} {o : Option X} {a b : X} → o ≡ Some a → o ≡ Some b → a ≡ b
some_same p q = cc

pub set_there : {X : Type 0} (xs : List X) (i : ℕ) (x v : X) → slice_get xs i ≡ Some x → slice_get (set xs i v) i ≡ Some v
set_there [] i x v at = absurd (cc)
set_there (y ∷ xs) zero x v at = refl
set_there (y ∷ xs) (suc i) x v at = set_there xs i x v at

pub set_other : {X : Type 0} (xs : List X) (i k : ℕ) (v : X) → k ≢ i → slice_get (set xs i v) k ≡ slice_get xs k
set_other [] i k v other = refl
set_other (y ∷ xs) zero zero v other = absurd (other refl)
set_other (y ∷ xs) zero (suc k) v other = refl
set_other (y ∷ xs) (suc i) zero v other = refl
set_other (y ∷ xs) (suc i) (suc k) v other = set_other xs i k v (λ e. other (ap suc e))

same_at : (lines : List DeviceConnection) (at : ℕ) (old : DeviceConnection) → slice_get lines at ≡ Some old → set lines at old ≡ lines
same_at [] at old is = refl
same_at (x ∷ lines) zero old is = ap (λ (y : DeviceConnection). y ∷ lines) (some_same refl (sym is))
same_at (x ∷ lines) (suc at) old is = ap (λ (l : List DeviceConnection). x ∷ l) (same_at lines at old is)

pub unchanged : (lines : List DeviceConnection) (at : ℕ) (old new : DeviceConnection) → slice_get lines at ≡ Some old → new ≡ old → set lines at new ≡ lines
unchanged lines at old new is same = ap (set lines at) same ∙ same_at lines at old is

-- ---- how often a number stands in a list

pub times_joined : (i : ℕ) (xs ys : List ℕ) → times_asked i (xs ++ ys) ≡ times_asked i xs + times_asked i ys
times_joined i [] ys = omega arith
times_joined i (x ∷ xs) ys = omega (arith, times_joined i xs ys)

-- ---- a step on one line

module _ (now : ℕ) (limits : Limits) (lines : List DeviceConnection) (at : ℕ) (old new : DeviceConnection) (is : slice_get lines at ≡ Some old) (step : OwnStep now limits old new) where
  led_on : (most : ℕ → ℕ) (from : DeviceConnection) (before after : List Task) → ((output : ℕ) → times_asked output (begun_by step) + due_at output after ≤ due_at output before)
      → IsLed now limits most from before lines at → IsLed now limits most from after (set lines at new) at
  led_on most from before after takes led =
      let P : DeviceConnection → Type 0 = λ x. (course : CourseBy (OwnStep now limits) from x) × ((output : ℕ) → times_asked output (begun course) + due_at output before ≤ most output) in
      let (course, within) = subst P (some_same led.there is) (led.course, led.within) in
      record {
        line = new;
        there = set_there lines at old new is;
        course = goes course new step;
        within = λ output. omega (arith, times_joined output (begun_by step) (begun course), takes output, within output);
      }

  pub line_goes : (before after : List Task) → ((output : ℕ) → times_asked output (begun_by step) + due_at output after ≤ due_at output before) → LinkGoes now limits at before lines after (set lines at new)
  line_goes before after takes most from led = ∥∥₁_elim led ∥∥₁_prop (λ l. ∣ led_on most from before after takes l ∣₁)

same_line : (now : ℕ) (limits : Limits) (most : ℕ → ℕ) (from : DeviceConnection) (before after : List Task) (lines new : List DeviceConnection) (link : ℕ) → slice_get new link ≡ slice_get lines link → ((output : ℕ) → due_at output after ≤ due_at output before)
    → IsLed now limits most from before lines link → IsLed now limits most from after new link
same_line now limits most from before after lines new link same fewer led = record {
  line = led.line;
  there = same ∙ led.there;
  course = led.course;
  within = λ output. omega (arith, fewer output, led.within output);
}

pub still_goes : (now : ℕ) (limits : Limits) (before after : List Task) (lines new : List DeviceConnection) (link : ℕ) → slice_get new link ≡ slice_get lines link → ((output : ℕ) → due_at output after ≤ due_at output before) → LinkGoes now limits link before lines after new
still_goes now limits before after lines new link same fewer most from led = ∥∥₁_elim led ∥∥₁_prop (λ l. ∣ same_line now limits most from before after lines new link same fewer l ∣₁)

no_fewer : (tasks : List Task) (output : ℕ) → due_at output tasks ≤ due_at output tasks
no_fewer tasks output = omega arith

pub others_go : (lines : List DeviceConnection) (at : ℕ) (new : DeviceConnection) → OthersGo at lines (set lines at new)
others_go lines at new now limits link tasks other = still_goes now limits tasks tasks lines (set lines at new) link (set_other lines at link new other) (no_fewer tasks)

own_goes : (now : ℕ) (limits : Limits) (lines : List DeviceConnection) (at : ℕ) (old new : DeviceConnection) → slice_get lines at ≡ Some old → (step : OwnStep now limits old new) → (before after : List Task)
    → ((output : ℕ) → times_asked output (begun_by step) + due_at output after ≤ due_at output before) → (link : ℕ) → LinkGoes now limits link before lines after (set lines at new)
own_goes now limits lines at old new is step before after takes link = go (eqb_tells link at)
  where
    go : ((eqb link at ≡ true) × (link ≡ at)) ⊎ ((eqb link at ≡ false) × (link ≢ at)) → LinkGoes now limits link before lines after (set lines at new)
    go (inl here) = subst (λ k. LinkGoes now limits k before lines after (set lines at new)) (sym here.1) (line_goes now limits lines at old new is step before after takes)
    go (inr away) = still_goes now limits before after lines (set lines at new) link (set_other lines at link new away.1) (λ output. omega (arith, takes output))

pub keeps_goes : (lines : List DeviceConnection) (at : ℕ) (old new : DeviceConnection) → slice_get lines at ≡ Some old → Keeps old new → LinesGo lines (set lines at new)
keeps_goes lines at old new is step now limits link tasks = own_goes now limits lines at old new is (keeps step) tasks tasks (λ output. omega arith) link

-- a dial changes nothing else
module _ {X : Type 0} (f : DeviceConnection → X) where
  still_by : (until : ℕ) (line : DeviceConnection) → f (record line { dial_until = Some until }) ≡ f line → f (dialled until line) ≡ f line
  still_by until line same = go line.is_up
    where
      go : (b : Bool) → f (if b then line else record line { dial_until = Some until }) ≡ f line
      go true = refl
      go false = same

pub still_asked : (until : ℕ) (line : DeviceConnection) → (dialled until line).asked ≡ line.asked
still_asked until line = still_by (λ (l : DeviceConnection). l.asked) until line refl

pub still_pending : (until : ℕ) (line : DeviceConnection) → (dialled until line).pending ≡ line.pending
still_pending until line = still_by (λ (l : DeviceConnection). l.pending) until line refl

pub still_out : (until : ℕ) (line : DeviceConnection) → (dialled until line).out.items ≡ line.out.items
still_out until line = still_by (λ (l : DeviceConnection). l.out.items) until line refl

still_dialled : (until : ℕ) (line : DeviceConnection) (b : Bool) → line.is_up ≡ b → (if b then line else record line { dial_until = Some until }) ≡ dialled until line
still_dialled until line b is = ap (λ (x : Bool). if x then line else record line { dial_until = Some until }) (sym is)

-- a dial begins where it is down, else nothing happens
pub dialled_goes : (lines : List DeviceConnection) (at : ℕ) (old new : DeviceConnection) (until : ℕ) → slice_get lines at ≡ Some old → new ≡ dialled until old → LinesGo lines (set lines at new)
dialled_goes lines at old new until is dialled_so = go old.is_up refl
  where
    go : (b : Bool) → old.is_up ≡ b → LinesGo lines (set lines at new)
    go true up now limits link tasks =
        let same : new ≡ old = dialled_so ∙ sym (still_dialled until old true up) in
        still_goes now limits tasks tasks lines (set lines at new) link (ap (λ (l : List DeviceConnection). slice_get l link) (unchanged lines at old new is same)) (λ output. omega arith)
    go false down now limits link tasks =
        own_goes now limits lines at old new is (dials (record { down = down; until = until; same = dialled_so ∙ sym (still_dialled until old false down) })) tasks tasks (λ output. omega arith) link

-- what stands there then
pub dialled_there : (lines : List DeviceConnection) (at : ℕ) (old new : DeviceConnection) (until : ℕ) → slice_get lines at ≡ Some old → new ≡ dialled until old → (line : DeviceConnection) → slice_get lines at ≡ Some line → slice_get (set lines at new) at ≡ Some (dialled until line)
dialled_there lines at old new until is dialled_so line there = set_there lines at old new is ∙ ap Some (dialled_so ∙ ap (dialled until) (some_same is there))

-- one whose time is over
pub given_up_goes : (now : ℕ) (lines : List DeviceConnection) (at : ℕ) (old new : DeviceConnection) → slice_get lines at ≡ Some old → GivesUp old new → is_over now old.asked ≡ true → LinesGoAt now lines (set lines at new)
given_up_goes now lines at old new is step waited limits link tasks = own_goes now limits lines at old new is (gives_up step waited) tasks tasks (λ output. omega arith) link

pub begun_goes : (now : ℕ) (limits : Limits) (lines : List DeviceConnection) (at : ℕ) (old new : DeviceConnection) → slice_get lines at ≡ Some old → (step : Begins old new) → IsTimed now limits step.asked → (before after : List Task) → TakesDue step.asked.aim before after
    → (link : ℕ) → LinkGoes now limits link before lines after (set lines at new)
begun_goes now limits lines at old new is step timed before after takes = own_goes now limits lines at old new is (begins step timed) before after takes.each

-- ---- what went out

joined : (requests : List Request) (r : Request) → flat_map (λ (x : Request). frame_bytes (frame_of x)) (requests ++ (r ∷ [])) ≡ flat_map (λ (x : Request). frame_bytes (frame_of x)) requests ++ frame_bytes (frame_of r)
joined [] r = append-nil (frame_bytes (frame_of r))
joined (q ∷ requests) r = ap (λ l. frame_bytes (frame_of q) ++ l) (joined requests r) ∙ sym (append_assoc (frame_bytes (frame_of q)) (flat_map (λ (x : Request). frame_bytes (frame_of x)) requests) (frame_bytes (frame_of r)))

abbrev SendsMore : List Request → List ℕ → DeviceConnection → DeviceConnection → Type 0
SendsMore requests gone old new = (more : List Request) × IsSending (requests ++ more) gone new × AreNumbered old.id more new.id

same_out : (requests : List Request) (gone : List ℕ) (old new : DeviceConnection) → new.out.items ≡ old.out.items → new.id ≡ old.id → IsSending requests gone old → SendsMore requests gone old new
same_out requests gone old new same next sending = ([], ap (λ l. gone ++ l) same ∙ (sending ∙ ap (λ (l : List Request). flat_map (λ (x : Request). frame_bytes (frame_of x)) l) (sym (append-nil requests))), next)

one_step : (requests : List Request) (gone : List ℕ) (old new : DeviceConnection) → HearingStep old new → IsSending requests gone old → SendsMore requests gone old new
one_step requests gone old new (inl (now, limits, begins step timed)) sending =
    let all : gone ≡ flat_map (λ (x : Request). frame_bytes (frame_of x)) requests = sym (append-nil gone) ∙ (ap (λ l. gone ++ l) (sym step.quiet) ∙ sending) in
    (step.request ∷ [], ap (λ l. gone ++ l) step.frame ∙ (ap (λ l. l ++ frame_bytes (frame_of step.request)) all ∙ sym (joined requests step.request)), (step.numbered, step.next))
one_step requests gone old new (inl (now, limits, gives_up step waited)) sending = same_out requests gone old new step.same step.next sending
one_step requests gone old new (inl (now, limits, keeps step)) sending = same_out requests gone old new step.same step.next sending
one_step requests gone old new (inl (now, limits, dials step)) sending = same_out requests gone old new (ap (λ (l : DeviceConnection). l.out.items) step.same) (ap (λ (l : DeviceConnection). l.id) step.same) sending
one_step requests gone old new (inr (bytes, left, fate, step)) sending = same_out requests gone old new step.same step.next sending

and_more : (requests more others : List Request) (gone : List ℕ) (new : DeviceConnection) → IsSending ((requests ++ more) ++ others) gone new → IsSending (requests ++ (more ++ others)) gone new
and_more requests more others gone new sending = sending ∙ ap (λ (l : List Request). flat_map (λ (x : Request). frame_bytes (frame_of x)) l) (append_assoc requests more others)

numbered_on : (id middle next : ℕ) (more others : List Request) → AreNumbered id more middle → AreNumbered middle others next → AreNumbered id (more ++ others) next
numbered_on id middle next [] others is rest = subst (λ n. AreNumbered n others next) is rest
numbered_on id middle next (r ∷ more) others (own, is) rest = (own, numbered_on (next_id id) middle next more others is rest)

course_sends : (requests : List Request) (gone : List ℕ) (old new : DeviceConnection) → CourseBy HearingStep old new → IsSending requests gone old → SendsMore requests gone old new
course_sends requests gone old new (stays line) sending = same_out requests gone old old refl refl sending
course_sends requests gone old new (goes {middle = middle} course line step) sending =
    let first = course_sends requests gone old middle course sending in
    let then_ = one_step (requests ++ first.0) gone middle new step first.1 in
    (first.0 ++ then_.0, and_more requests first.0 then_.0 gone new then_.1, numbered_on old.id middle.id new.id first.0 then_.0 first.2 then_.2)

goes_out : (requests : List Request) (gone : List ℕ) (n : ℕ) (old new : DeviceConnection) → Sends n old new → IsSending requests gone old → IsSending requests (gone ++ take (min n (length old.out.items)) old.out.items) new
goes_out requests gone n old new sends sending =
    let m : ℕ = min n (length old.out.items) in
    ap (λ l. (gone ++ take m old.out.items) ++ l) sends.left ∙ (append_assoc gone (take m old.out.items) (drop m old.out.items) ∙ (ap (λ l. gone ++ l) (take-append-drop m old.out.items) ∙ sending))

pub frames_go_out_whole : FramesGoOutWhole
frames_go_out_whole = record {
  anew = λ line cut. cut.quiet;
  goes_on = course_sends;
  goes_out = goes_out;
  one_at_a_time = λ old new begins. (begins.free, begins.quiet);
}

-- ---- what stands at a place

pub is_at : (P : DeviceConnection → Type 0) (lines : List DeviceConnection) (at : ℕ) (old new : DeviceConnection) → slice_get lines at ≡ Some old → P new → (line : DeviceConnection) → slice_get (set lines at new) at ≡ Some line → P line
is_at P lines at old new is p line there = subst P (some_same (set_there lines at old new is) there) p

-- a step of a line that stands at its place
pub step_at : (Step : DeviceConnection → DeviceConnection → Type 0) (lines : List DeviceConnection) (at : ℕ) (old new : DeviceConnection) → slice_get lines at ≡ Some old → Step old new → (line : DeviceConnection) → slice_get lines at ≡ Some line
    → (now : DeviceConnection) × (slice_get (set lines at new) at ≡ Some now) × Step line now
step_at Step lines at old new is step line there = (new, set_there lines at old new is, subst (λ (x : DeviceConnection). Step x new) (some_same is there) step)

-- a request that may not begin takes nothing of what is due
pub not_begun : (now : ℕ) (limits : Limits) (made_for : Aim) (before after : List Task) (lines : List DeviceConnection) → TakesDue made_for before after → (link : ℕ) → LinkGoes now limits link before lines after lines
not_begun now limits made_for before after lines takes link = still_goes now limits before after lines lines link refl (λ output. omega (arith, takes.each output))

-- where one may begin it does, else nothing changes
pub begun_goes_if : (lines : List DeviceConnection) (at : ℕ) (old new : DeviceConnection) (did : Bool) (asked : Asked) → slice_get lines at ≡ Some old → (IsTrue did → (step : Begins old new) × (step.asked ≡ asked)) → (did ≡ false → new ≡ old)
    → (now : ℕ) (limits : Limits) → IsTimed now limits asked → (before after : List Task) → TakesDue asked.aim before after → (link : ℕ) → LinkGoes now limits link before lines after (set lines at new)
begun_goes_if lines at old new true asked is did_begin none now limits timed before after takes link =
    let (step, own) = did_begin refl in
    let P : Asked → Type 0 = λ a. TakesDue a.aim before after in
    begun_goes now limits lines at old new is step (subst (IsTimed now limits) (sym own) timed) before after (subst P (sym own) takes) link
begun_goes_if lines at old new false asked is did_begin none now limits timed before after takes link =
    still_goes now limits before after lines (set lines at new) link (ap (λ (l : List DeviceConnection). slice_get l link) (unchanged lines at old new is (none refl))) (λ output. omega (arith, takes.each output))

-- ---- how long a request has

same_asked : {a b : Asked} {o : Option Asked} → o ≡ Some a → o ≡ Some b → a ≡ b
same_asked p q = cc

module _ (now : ℕ) (limits : Limits) where
  asked_step : (old new : DeviceConnection) → OwnStep now limits old new → (asked : Asked) → new.asked ≡ Some asked → (old.asked ≡ Some asked) ⊎ IsTimed now limits asked
  asked_step old new (begins step timed) asked is = inr (subst (IsTimed now limits) (same_asked step.noted is) timed)
  asked_step old new (gives_up step waited) asked is = absurd (let over = step.over in cc)
  asked_step old new (keeps step) asked is = inl (sym step.still ∙ is)
  asked_step old new (dials step) asked is = inl (sym (ap (λ (l : DeviceConnection). l.asked) step.same) ∙ is)

  asked_further : (old middle : DeviceConnection) (asked : Asked) → (middle.asked ≡ Some asked → (old.asked ≡ Some asked) ⊎ IsTimed now limits asked) → (middle.asked ≡ Some asked) ⊎ IsTimed now limits asked
      → (old.asked ≡ Some asked) ⊎ IsTimed now limits asked
  asked_further old middle asked before (inl still) = before still
  asked_further old middle asked before (inr timed) = inr timed

  asked_course : (old new : DeviceConnection) → CourseBy (OwnStep now limits) old new → (asked : Asked) → new.asked ≡ Some asked → (old.asked ≡ Some asked) ⊎ IsTimed now limits asked
  asked_course old new (stays line) asked is = inl is
  asked_course old new (goes {middle = middle} course line step) asked is = asked_further old middle asked (asked_course old middle course asked) (asked_step middle new step asked is)

  waits_step : (old new : DeviceConnection) → OwnStep now limits old new → (asked : Asked) → old.asked ≡ Some asked → is_over now old.asked ≡ false → new.asked ≡ Some asked
  waits_step old new (begins step timed) asked is waits = absurd (let free = step.free in cc)
  waits_step old new (gives_up step waited) asked is waits = absurd (cc)
  waits_step old new (keeps step) asked is waits = step.still ∙ is
  waits_step old new (dials step) asked is waits = ap (λ (l : DeviceConnection). l.asked) step.same ∙ is

  waits_course : (old new : DeviceConnection) → CourseBy (OwnStep now limits) old new → (asked : Asked) → old.asked ≡ Some asked → is_over now old.asked ≡ false → new.asked ≡ Some asked
  waits_course old new (stays line) asked is waits = is
  waits_course old new (goes {middle = middle} course line step) asked is waits =
      let there = waits_course old middle course asked is waits in
      waits_step middle new step asked there (ap (is_over now) (there ∙ sym is) ∙ waits)

  began_now : (b : Bool) (asked : Asked) → asked.since ≡ now → (b && not (asked.since == now)) ≡ false
  began_now false asked since = refl
  began_now true asked since = ap not (eq-eqb asked.since now since)

  not_left : (before : Option Asked) (asked : Asked) → is_left now before ≡ false → (before ≡ Some asked) ⊎ IsTimed now limits asked → is_left now (Some asked) ≡ false
  not_left before asked none (inl still) = ap (is_left now) (sym still) ∙ none
  not_left before asked none (inr timed) = began_now (nat_le asked.until now) asked timed.since

  ends_course : (old new : DeviceConnection) → CourseBy (OwnStep now limits) old new → is_left now old.asked ≡ false → is_left now new.asked ≡ false
  ends_course old new course none = go new.asked refl
    where
      go : (o : Option Asked) → new.asked ≡ o → is_left now o ≡ false
      go None is = refl
      go (Some asked) is = not_left old.asked asked none (asked_course old new course asked is)

pub requests_have_their_time : RequestsHaveTheirTime
requests_have_their_time = record { under_way = asked_course; waits = waits_course; ends = ends_course }

-- ---- what is free

pub free_parts : (up bad : Bool) (asked : Option Asked) (quiet : Bool) → true ≡ (up && not bad && is_none asked && quiet) → (up ≡ true) × (bad ≡ false) × (asked ≡ None) × (quiet ≡ true)
free_parts true false None true is = (refl, refl, refl, refl)
free_parts true false None false is = absurd (cc)
free_parts true false (Some asked) quiet is = absurd (cc)
free_parts true true asked quiet is = absurd (cc)
free_parts false bad asked quiet is = absurd (cc)

pub none_waits : (bytes : List ℕ) → (length bytes == 0) ≡ true → bytes ≡ []
none_waits bytes is = nil_of bytes (eqb-true (length bytes) 0 is)
  where
    nil_of : (l : List ℕ) → length l ≡ 0 → l ≡ []
    nil_of [] none = refl
    nil_of (byte ∷ l) none = absurd (omega (arith, none))

-- ---- its back-off

truth : {a b : Bool} → a ≡ b → b ≡ false → a ≡ true → {X : Type 0} → X
truth same none yes_ = absurd (cc)

unwaited_linked : (old new : DeviceConnection) → StaysLinked old new → IsUnwaited old → IsUnwaited new
unwaited_linked old new linked before = record { over = λ up answered. linked.wait ∙ before.over (sym linked.up ∙ up) (sym linked.answered ∙ answered) }

unwaited_heard : (old new : DeviceConnection) (fate : Option RequestEnd) → new.is_up ≡ old.is_up → new.is_heard ≡ (if answers fate then true else old.is_heard) → new.wait ≡ (if answers fate then 0 else old.wait) → IsUnwaited old → IsUnwaited new
unwaited_heard old new fate up answered wait before = go (answers fate) answered wait
  where
    go : (b : Bool) → new.is_heard ≡ (if b then true else old.is_heard) → new.wait ≡ (if b then 0 else old.wait) → IsUnwaited new
    go true heard over = record { over = λ is_up is_heard. over }
    go false heard over = record { over = λ is_up is_heard. over ∙ before.over (sym up ∙ is_up) (sym heard ∙ is_heard) }

unwaited_step : (old new : DeviceConnection) → HearingStep old new → IsUnwaited old → IsUnwaited new
unwaited_step old new (inl (now, limits, begins step timed)) before = unwaited_linked old new step.linked before
unwaited_step old new (inl (now, limits, gives_up step waited)) before = unwaited_linked old new step.linked before
unwaited_step old new (inl (now, limits, keeps step)) before = unwaited_linked old new step.linked before
unwaited_step old new (inl (now, limits, dials step)) before = subst IsUnwaited (sym step.same) (record { over = before.over })
unwaited_step old new (inr (bytes, left, fate, step)) before = unwaited_heard old new fate step.up step.answered step.wait before

unwaited_course : (old new : DeviceConnection) → CourseBy HearingStep old new → IsUnwaited old → IsUnwaited new
unwaited_course old new (stays line) before = before
unwaited_course old new (goes {middle = middle} course line step) before = unwaited_step middle new step (unwaited_course old middle course before)

idle_parts : (up bad : Bool) (asked : Option Asked) (answered : Bool) → (up && not bad && is_none asked && answered) ≡ true → (up ≡ true) × (answered ≡ true)
idle_parts true false None true is = (refl, refl)
idle_parts true false None false is = absurd (cc)
idle_parts true false (Some asked) answered is = absurd (cc)
idle_parts true true asked answered is = absurd (cc)
idle_parts false bad asked answered is = absurd (cc)

at_once : (now : ℕ) (limits : Limits) (old new : DeviceConnection) → GoesDown now limits old new → IsUnwaited old → is_idle old ≡ true → new.wait ≡ 0
at_once now limits old new down before is =
    let parts = idle_parts old.is_up old.is_bad old.asked old.is_heard is in
    down.wait ∙ (ap (λ (b : Bool). if b then old.wait else longer old.wait (min limits.period 1000) limits.back_off_most) is ∙ before.over parts.0 parts.1)

pub answered_lines_have_no_back_off : AnsweredLinesHaveNoBackOff
answered_lines_have_no_back_off = record {
  own = unwaited_course;
  goes_out = λ n old new sends before. subst IsUnwaited (sym sends.same) (record { over = before.over });
  comes_up = λ old new step. record { over = λ up answered. truth step.answered refl answered };
  goes_down = λ now limits old new step. record { over = λ up answered. truth step.down refl up };
  at_once = at_once;
}
