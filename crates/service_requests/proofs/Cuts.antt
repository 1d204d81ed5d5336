-- However a stream is cut into pieces, the same comes of it.
use Rattle.std.proofs.Common.{◌≡◌, ◌⊎◌, inl, inr, ℕ, zero, suc, ◌<◌, Bool, true, false, if◌then◌else◌, List, [], ◌∷◌, ◌++◌, length, Option, None, Some, option_map, refl, sym, ap, ◌∙◌, subst, arith, append_assoc, length-append}
use Rattle.std.proofs.lemmas.List.{append-nil}
use Rattle.std.specs.List.{flat_map, AllByRecursion}
use Rattle.std.specs.Option.{option_to_list}
use Rattle.modbus_frame.specs.declared.fault.FrameFault.{FrameFault}
use Rattle.modbus_frame.specs.declared.frame.Frame.{Frame}
use Rattle.modbus_frame.specs.Frame.{frame_bytes, IsFrame, IsRest, IsFaulty, stream_of}
use Rattle.modbus_frame.specs.Framing.{empty}
use Rattle.modbus_frame.specs.Held.{Held}
use Rattle.modbus_frame.specs.Message.{response_of}
use Rattle.modbus_frame.specs.Reading.{Reading}
use Rattle.modbus_frame.proofs.Streams.{HasFront, IsRest-front, IsFaulty-front, IsRest-IsFaulty, same_front, same_stream, same_fault, IsFaulty-append}
use Rattle.gateway.specs.declared.poller.outcome.Outcome.{Outcome}
use Rattle.gateway.specs.poller.LinkRun.{Asked, Decided, is_reply, outcome_by, decided_within}
use Rattle.service_requests.specs.declared.request_end.RequestEnd.{RequestEnd}
use Rattle.service_requests.specs.declared.request_end.RequestEnd.TheVariants as fate
use Rattle.service_requests.specs.Hearing.{CutsGiveTheSame, OutcomesAreDecided, asking, Hears, HearsFor, MeetsFault, Settles, StaysOpen, Takes, TakesAll, TakesUnless, Wait, Wire, lost_by, unused, with_bytes, with_rest}

-- ---- records by their parts

reading_by : Held → List ℕ → Reading
reading_by held unfed = record { held = held; unfed = unfed }

same_reading : (x y : Reading) → x.held ≡ y.held → x.unfed ≡ y.unfed → x ≡ y
unfolding reading_by
same_reading x y held unfed = ap (λ h. reading_by h x.unfed) held ∙ ap (λ u. reading_by y.held u) unfed

wire_by : Reading → Option Wait → Wire
wire_by reading wait = record { reading = reading; wait = wait }

same_wire : (s t : Wire) → s.reading ≡ t.reading → s.wait ≡ t.wait → s ≡ t
unfolding wire_by
same_wire s t reading wait = ap (λ r. wire_by r s.wait) reading ∙ ap (λ w. wire_by t.reading w) wait

-- ---- more frames, and more bytes

each_both : (fs gs : List Frame) → AllByRecursion IsFrame fs → AllByRecursion IsFrame gs → AllByRecursion IsFrame (fs ++ gs)
each_both [] gs each all = all
each_both (f ∷ fs) gs each all = (each.0, each_both fs gs each.1 all)

stream_both : (fs gs : List Frame) (rest : List ℕ) → stream_of (fs ++ gs) rest ≡ stream_of fs (stream_of gs rest)
stream_both [] gs rest = refl
stream_both (f ∷ fs) gs rest =
    append_assoc (frame_bytes f) (flat_map frame_bytes (fs ++ gs)) rest ∙ ap (λ l. frame_bytes f ++ l) (stream_both fs gs rest)
    ∙ sym (append_assoc (frame_bytes f) (flat_map frame_bytes fs) (stream_of gs rest))

unused_with : (r : Reading) (bytes : List ℕ) → unused (with_bytes r bytes) ≡ unused r ++ bytes
unused_with r bytes = sym (append_assoc (r.held).kept r.unfed bytes)

with_both : (r : Reading) (p q : List ℕ) → with_bytes (with_bytes r p) q ≡ with_bytes r (p ++ q)
with_both r p q = same_reading (with_bytes (with_bytes r p) q) (with_bytes r (p ++ q)) refl (append_assoc r.unfed p q)

came_behind : (r : Reading) (p q : List ℕ) (frames : List Frame) (rest : List ℕ) → unused (with_bytes r p) ≡ stream_of frames rest → unused (with_bytes r (p ++ q)) ≡ stream_of frames (rest ++ q)
came_behind r p q frames rest came =
    unused_with r (p ++ q) ∙ sym (append_assoc (unused r) p q) ∙ ap (λ l. l ++ q) (sym (unused_with r p) ∙ came) ∙ append_assoc (flat_map frame_bytes frames) rest q

came_both : (r m : Reading) (p q : List ℕ) (fs gs : List Frame) (rest : List ℕ) → unused (with_bytes r p) ≡ stream_of fs (m.held).kept → m.unfed ≡ [] → unused (with_bytes m q) ≡ stream_of gs rest
    → unused (with_bytes r (p ++ q)) ≡ stream_of (fs ++ gs) rest
came_both r m p q fs gs rest came fed more =
    let ahead : (m.held).kept ++ q ≡ unused (with_bytes m q) = ap (λ u. (m.held).kept ++ (u ++ q)) (sym fed) in
    came_behind r p q fs (m.held).kept came ∙ ap (stream_of fs) (ahead ∙ more) ∙ sym (stream_both fs gs rest)

-- ---- what frames decide

with_behind : List Frame → Decided → Decided
with_behind more d = record { outcome = d.outcome; behind = d.behind ++ more }

decided_by_reply : (b : Bool) (asked : Asked) (n : ℕ) (o : Outcome) (fs more : List Frame) (d : Decided)
    → (decided_within asked n fs ≡ Some d → decided_within asked n (fs ++ more) ≡ Some (with_behind more d))
    → (if b then Some (record { outcome = o; behind = fs }) else decided_within asked n fs) ≡ Some d
    → (if b then Some (record { outcome = o; behind = fs ++ more }) else decided_within asked n (fs ++ more)) ≡ Some (with_behind more d)
unfolding with_behind
decided_by_reply true asked n o fs more d others is = ap (option_map (with_behind more)) is
decided_by_reply false asked n o fs more d others is = others is

decided_more : (asked : Asked) (n : ℕ) (fs more : List Frame) (d : Decided) → decided_within asked n fs ≡ Some d → decided_within asked n (fs ++ more) ≡ Some (with_behind more d)
unfolding with_behind
decided_more asked zero fs more d is = ap (option_map (with_behind more)) is
decided_more asked (suc n) [] more d is = absurd (cc)
decided_more asked (suc n) (f ∷ fs) more d is =
    decided_by_reply (is_reply asked f) asked n (outcome_by (response_of asked.request f.pdu)) fs more d (decided_more asked n fs more d) is

-- ---- one stream in two ways

abbrev Longer : List Frame → List Frame → List ℕ → List ℕ → Type 0
Longer fs gs x y = (more : List Frame) × (fs ≡ gs ++ more) × (y ≡ stream_of more x)

compared_next : (f g : Frame) (fs gs : List Frame) (x y : List ℕ) → f ≡ g → Longer fs gs x y ⊎ Longer gs fs y x → Longer (f ∷ fs) (g ∷ gs) x y ⊎ Longer (g ∷ gs) (f ∷ fs) y x
compared_next f g fs gs x y same (inl p) = inl (p.0, ap (λ l. f ∷ l) p.1 ∙ ap (λ h. h ∷ (gs ++ p.0)) same, p.2)
compared_next f g fs gs x y same (inr p) = inr (p.0, ap (λ l. g ∷ l) p.1 ∙ ap (λ h. h ∷ (fs ++ p.0)) (sym same), p.2)

compared : (fs gs : List Frame) (x y : List ℕ) → AllByRecursion IsFrame fs → AllByRecursion IsFrame gs → stream_of fs x ≡ stream_of gs y → Longer fs gs x y ⊎ Longer gs fs y x
compared [] gs x y each all same = inr (gs, refl, same)
compared (f ∷ fs) [] x y each all same = inl (f ∷ fs, refl, sym same)
compared (f ∷ fs) (g ∷ gs) x y each all same =
    let first = same_front f g (stream_of fs x) (stream_of gs y) each.0 all.0 (sym (append_assoc (frame_bytes f) (flat_map frame_bytes fs) x) ∙ same ∙ append_assoc (frame_bytes g) (flat_map frame_bytes gs) y) in
    compared_next f g fs gs x y first.0 (compared fs gs x y each.1 all.1 first.1)

decided_of : Outcome → List Frame → Decided
decided_of o behind = record { outcome = o; behind = behind }

same_decided : (o p : Outcome) (fs gs : List Frame) → Some (decided_of o fs) ≡ Some (decided_of p gs) → (o ≡ p) × (fs ≡ gs)
unfolding decided_of
same_decided o p fs gs same =
    let inside : decided_of o fs ≡ decided_of p gs = cc in
    (ap (λ (d : Decided). d.outcome) inside, ap (λ (d : Decided). d.behind) inside)

-- what was decided by frames, and by more of them
settled_longer : (asked : Asked) (n : ℕ) (fs gs : List Frame) (o p : Outcome) (x y : List ℕ)
    → decided_within asked n fs ≡ Some (record { outcome = o; behind = [] }) → decided_within asked n gs ≡ Some (record { outcome = p; behind = [] }) → Longer gs fs y x → (o ≡ p) × (x ≡ y)
unfolding decided_of with_behind
settled_longer asked n fs gs o p x y one two (more, is, rest) =
    let longer : decided_within asked n gs ≡ Some (decided_of o more) = ap (decided_within asked n) is ∙ decided_more asked n fs more (decided_of o []) one in
    let same = same_decided o p more [] (sym longer ∙ two) in
    (same.0, rest ∙ ap (λ (m : List Frame). stream_of m y) same.1)

settled_once : (asked : Asked) (n : ℕ) (fs gs : List Frame) (o p : Outcome) (x y : List ℕ)
    → decided_within asked n fs ≡ Some (record { outcome = o; behind = [] }) → decided_within asked n gs ≡ Some (record { outcome = p; behind = [] }) → Longer fs gs x y ⊎ Longer gs fs y x → (o ≡ p) × (x ≡ y)
settled_once asked n fs gs o p x y one two (inl longer) =
    let same = settled_longer asked n gs fs p o y x two one longer in (sym same.0, sym same.1)
settled_once asked n fs gs o p x y one two (inr longer) = settled_longer asked n fs gs o p x y one two longer

front_of : (more : List Frame) (x y : List ℕ) → y ≡ stream_of more x → ¬ (HasFront y) → AllByRecursion IsFrame more → more ≡ []
front_of [] x y is none each = refl
front_of (f ∷ fs) x y is none each = absurd (none (f, flat_map frame_bytes fs ++ x, each.0, is ∙ append_assoc (frame_bytes f) (flat_map frame_bytes fs) x))

each_behind : (gs more : List Frame) → AllByRecursion IsFrame (gs ++ more) → AllByRecursion IsFrame more
each_behind [] more each = each
each_behind (g ∷ gs) more each = each_behind gs more each.1

-- frames that decide, and the same stream as frames that don't
never_both : (asked : Asked) (n : ℕ) (fs gs : List Frame) (d : Decided) (x y : List ℕ) → AllByRecursion IsFrame fs → decided_within asked n fs ≡ Some d → decided_within asked n gs ≡ None → ¬ (HasFront y) → Longer fs gs x y ⊎ Longer gs fs y x → ⊥
never_both asked n fs gs d x y each one two none (inl (more, is, rest)) =
    let P : List Frame → Type 0 = AllByRecursion IsFrame in
    let nothing = front_of more x y rest none (each_behind gs more (subst P is each)) in
    let same : fs ≡ gs = is ∙ ap (λ l. gs ++ l) nothing ∙ append-nil gs in
    let both : Some d ≡ None = sym one ∙ ap (decided_within asked n) same ∙ two in
    absurd (cc)
never_both asked n fs gs d x y each one two none (inr (more, is, rest)) =
    let both : Some (with_behind more d) ≡ None = sym (decided_more asked n fs more d one) ∙ ap (decided_within asked n) (sym is) ∙ two in
    absurd (cc)

-- ---- one outcome

undecided_of : (asked : Asked) (n more : ℕ) (fs : List Frame) → 0 < more → ((behind : List Frame) → decided_within asked n (fs ++ behind) ≡ decided_within asked more behind) → decided_within asked n fs ≡ None
undecided_of asked n zero fs some shut = absurd (omega (arith, some))
undecided_of asked n (suc more) fs some shut = ap (decided_within asked n) (sym (append-nil fs)) ∙ shut []

unused_empty : (r : Reading) → r.held ≡ empty → unused r ≡ r.unfed
unused_empty r held = ap (λ (h : Held). h.kept ++ r.unfed) held

settles_once : (r : Reading) (w : Wait) (o p : Outcome) (x y : Reading) → Settles r w o x → Settles r w p y → (o ≡ p) × (x ≡ y)
settles_once r w o p x y one two =
    let same = settled_once w.asked w.may_drop one.frames two.frames o p (unused x) (unused y) one.decided two.decided (compared one.frames two.frames (unused x) (unused y) one.each two.each (sym one.came ∙ two.came)) in
    (same.0, same_reading x y (one.held ∙ sym two.held) (sym (unused_empty x one.held) ∙ same.1 ∙ unused_empty y two.held))

settles_or_faults : (r : Reading) (w : Wait) (o : Outcome) (x y : Reading) → Settles r w o x → MeetsFault r w y → ⊥
settles_or_faults r w o x y one two =
    never_both w.asked w.may_drop one.frames two.frames _ (unused x) two.rest one.each one.decided two.undecided (IsFaulty-front two.fault two.rest two.faulty)
    (compared one.frames two.frames (unused x) two.rest one.each two.each (sym one.came ∙ two.came))

settles_or_stays : (r : Reading) (w : Wait) (o : Outcome) (more : ℕ) (x y : Reading) → Settles r w o x → StaysOpen r w more y → ⊥
settles_or_stays r w o more x y one two =
    never_both w.asked w.may_drop one.frames two.frames _ (unused x) (y.held).kept one.each one.decided (undecided_of w.asked w.may_drop more two.frames two.some two.undecided) (IsRest-front (y.held).kept two.partial)
    (compared one.frames two.frames (unused x) (y.held).kept one.each two.each (sym one.came ∙ two.came))

faults_or_stays : (r : Reading) (w : Wait) (more : ℕ) (x y : Reading) → MeetsFault r w x → StaysOpen r w more y → ⊥
faults_or_stays r w more x y one two =
    let same = same_stream one.frames two.frames one.rest (y.held).kept one.each two.each (IsFaulty-front one.fault one.rest one.faulty) (IsRest-front (y.held).kept two.partial) (sym one.came ∙ two.came) in
    let P : List ℕ → Type 0 = IsRest in
    IsRest-IsFaulty one.fault one.rest (subst P (sym same.1) two.partial) one.faulty

broken_by : FrameFault → Reading
broken_by fault = record { held = record { kept = []; fault = Some fault }; unfed = [] }

faults_once : (r : Reading) (w : Wait) (x y : Reading) → MeetsFault r w x → MeetsFault r w y → x ≡ y
unfolding broken_by
faults_once r w x y one two =
    let same = same_stream one.frames two.frames one.rest two.rest one.each two.each (IsFaulty-front one.fault one.rest one.faulty) (IsFaulty-front two.fault two.rest two.faulty) (sym one.came ∙ two.came) in
    let P : List ℕ → Type 0 = IsFaulty one.fault in
    one.after ∙ ap broken_by (same_fault one.fault two.fault two.rest (subst P same.1 one.faulty) two.faulty) ∙ sym two.after

held_by : List ℕ → Option FrameFault → Held
held_by kept fault = record { kept = kept; fault = fault }

same_held : (h k : Held) → h.kept ≡ k.kept → h.fault ≡ k.fault → h ≡ k
unfolding held_by
same_held h k kept fault = ap (λ l. held_by l h.fault) kept ∙ ap (λ f. held_by k.kept f) fault

stays_once : (r : Reading) (w : Wait) (more less : ℕ) (x y : Reading) → StaysOpen r w more x → StaysOpen r w less y → (more ≡ less) × (x ≡ y)
stays_once r w more less x y one two =
    let same = same_stream one.frames two.frames (x.held).kept (y.held).kept one.each two.each (IsRest-front (x.held).kept one.partial) (IsRest-front (y.held).kept two.partial) (sym one.came ∙ two.came) in
    (omega (arith, one.dropped, two.dropped, ap (λ (l : List Frame). length l) same.0), same_reading x y (same_held x.held y.held same.1 (one.good ∙ sym two.good)) (one.fed ∙ sym two.fed))

wait_by : Asked → ℕ → Option Wait
wait_by asked n = Some (record { asked = asked; may_drop = n })

hears_once : (w : Wait) (r : Reading) (a b : Option RequestEnd) (s t : Wire) → Hears w r a s → Hears w r b t → (a ≡ b) × (s ≡ t)
unfolding wait_by
hears_once w r (Some (fate.Told o)) (Some (fate.Told p)) s t one two =
    let same = settles_once r w o p s.reading t.reading one.0 two.0 in
    (ap (λ x. Some (fate.Told x)) same.0, same_wire s t same.1 (one.1 ∙ sym two.1))
hears_once w r (Some (fate.Told o)) (Some fate.Lost) s t one two = absurd (settles_or_faults r w o s.reading t.reading one.0 two.0)
hears_once w r (Some (fate.Told o)) None s t one two = absurd (settles_or_stays r w o two.0 s.reading t.reading one.0 two.1)
hears_once w r (Some fate.Lost) (Some (fate.Told p)) s t one two = absurd (settles_or_faults r w p t.reading s.reading two.0 one.0)
hears_once w r (Some fate.Lost) (Some fate.Lost) s t one two = (refl, same_wire s t (faults_once r w s.reading t.reading one.0 two.0) (one.1 ∙ sym two.1))
hears_once w r (Some fate.Lost) None s t one two = absurd (faults_or_stays r w two.0 s.reading t.reading one.0 two.1)
hears_once w r None (Some (fate.Told p)) s t one two = absurd (settles_or_stays r w p one.0 t.reading s.reading two.0 one.1)
hears_once w r None (Some fate.Lost) s t one two = absurd (faults_or_stays r w one.0 t.reading s.reading two.0 one.1)
hears_once w r None None s t one two =
    let same = stays_once r w one.0 two.0 s.reading t.reading one.1 two.1 in
    (refl, same_wire s t same.1 (one.2 ∙ ap (λ n. wait_by w.asked n) same.0 ∙ sym two.2))

hears_for_once : (wait : Option Wait) (r : Reading) (a b : Option RequestEnd) (s t : Wire) → HearsFor wait r a s → HearsFor wait r b t → (a ≡ b) × (s ≡ t)
hears_for_once None r a b s t one two = (one.0 ∙ sym two.0, one.1 ∙ sym two.1)
hears_for_once (Some w) r a b s t one two = hears_once w r a b s t one two

takes_once_unless : (fault : Option FrameFault) (old : Wire) (bytes : List ℕ) (a b : Option RequestEnd) (s t : Wire) → TakesUnless fault old bytes a s → TakesUnless fault old bytes b t → (a ≡ b) × (s ≡ t)
takes_once_unless None old bytes a b s t one two = hears_for_once old.wait (with_bytes old.reading bytes) a b s t one two
takes_once_unless (Some f) old bytes a b s t one two = (one.0 ∙ sym two.0, one.1 ∙ sym two.1)

-- ---- one piece, and another one

takes_good : (old : Wire) (bytes : List ℕ) (a : Option RequestEnd) (new : Wire) (wait : Option Wait) → (old.reading).held.fault ≡ None → old.wait ≡ wait → Takes old bytes a new → HearsFor wait (with_bytes old.reading bytes) a new
takes_good old bytes a new wait good is takes =
    let P : Option FrameFault → Type 0 = λ f. TakesUnless f old bytes a new in
    let Q : Option Wait → Type 0 = λ w. HearsFor w (with_bytes old.reading bytes) a new in
    subst Q is (subst P good takes)

good_takes : (old : Wire) (bytes : List ℕ) (a : Option RequestEnd) (new : Wire) (wait : Option Wait) → (old.reading).held.fault ≡ None → old.wait ≡ wait → HearsFor wait (with_bytes old.reading bytes) a new → Takes old bytes a new
good_takes old bytes a new wait good is hears =
    let P : Option FrameFault → Type 0 = λ f. TakesUnless f old bytes a new in
    let Q : Option Wait → Type 0 = λ w. HearsFor w (with_bytes old.reading bytes) a new in
    subst P (sym good) (subst Q (sym is) hears)

-- after a fate nothing is under way, and bytes are kept
kept_behind : (middle : Wire) (q : List ℕ) (second : Option RequestEnd) (new : Wire) → (middle.reading).held.fault ≡ None → middle.wait ≡ None → Takes middle q second new → (second ≡ None) × (new ≡ record { reading = with_bytes middle.reading q; wait = None })
kept_behind middle q second new good idle takes = takes_good middle q second new None good idle takes

-- and after a fault nothing is kept
broken_behind : (middle : Wire) (q : List ℕ) (second : Option RequestEnd) (new : Wire) (fault : FrameFault) → (middle.reading).held.fault ≡ Some fault → Takes middle q second new → (second ≡ lost_by middle.wait) × (new ≡ record middle { wait = None })
broken_behind middle q second new fault broken takes =
    let P : Option FrameFault → Type 0 = λ f. TakesUnless f middle q second new in
    subst P broken takes

-- What two pieces make of a connection, one makes of it too.
abbrev Merged : Wire → List ℕ → List ℕ → Option RequestEnd → Option RequestEnd → Wire → Type 0
Merged old p q first second new = (both : Option RequestEnd) × Takes old (p ++ q) both new × (option_to_list first ++ option_to_list second ≡ option_to_list both)

merged_idle : (old : Wire) (p q : List ℕ) (first second : Option RequestEnd) (middle new : Wire) → (old.reading).held.fault ≡ None → old.wait ≡ None
    → HearsFor None (with_bytes old.reading p) first middle → Takes middle q second new → Merged old p q first second new
unfolding wire_by
merged_idle old p q first second middle new good idle hears takes =
    let P : Wire → Type 0 = λ m. Takes m q second new in
    let kept = kept_behind (record { reading = with_bytes old.reading p; wait = None }) q second new good refl (subst P hears.1 takes) in
    (None, good_takes old (p ++ q) None new None good idle (refl, kept.1 ∙ ap (λ r. wire_by r None) (with_both old.reading p q)), ap (λ x. option_to_list x ++ option_to_list second) hears.0 ∙ ap (λ x. option_to_list x) kept.0)

merged_told : (old : Wire) (p q : List ℕ) (w : Wait) (o : Outcome) (second : Option RequestEnd) (middle new : Wire) → (old.reading).held.fault ≡ None → old.wait ≡ Some w
    → Settles (with_bytes old.reading p) w o middle.reading → middle.wait ≡ None → Takes middle q second new → Merged old p q (Some (fate.Told o)) second new
merged_told old p q w o second middle new good is settles idle takes =
    let kept = kept_behind middle q second new (ap (λ (h : Held). h.fault) settles.held) idle takes in
    let P : Reading → Type 0 = λ r. Settles (with_bytes old.reading (p ++ q)) w o r in
    let whole : P (with_bytes middle.reading q) = record {
      frames = settles.frames;
      each = settles.each;
      decided = settles.decided;
      came = came_behind old.reading p q settles.frames (unused middle.reading) settles.came ∙ ap (stream_of settles.frames) (sym (unused_with middle.reading q));
      held = settles.held;
    } in
    (Some (fate.Told o), good_takes old (p ++ q) (Some (fate.Told o)) new (Some w) good is (subst P (sym (ap (λ (x : Wire). x.reading) kept.1)) whole, ap (λ (x : Wire). x.wait) kept.1), ap (λ x. fate.Told o ∷ option_to_list x) kept.0)

merged_lost : (old : Wire) (p q : List ℕ) (w : Wait) (second : Option RequestEnd) (middle new : Wire) → (old.reading).held.fault ≡ None → old.wait ≡ Some w
    → MeetsFault (with_bytes old.reading p) w middle.reading → middle.wait ≡ None → Takes middle q second new → Merged old p q (Some fate.Lost) second new
merged_lost old p q w second middle new good is meets idle takes =
    let broken = broken_behind middle q second new meets.fault (ap (λ (r : Reading). (r.held).fault) meets.after) takes in
    let P : Reading → Type 0 = λ r. MeetsFault (with_bytes old.reading (p ++ q)) w r in
    let whole : P middle.reading = record {
      frames = meets.frames;
      each = meets.each;
      undecided = meets.undecided;
      rest = meets.rest ++ q;
      came = came_behind old.reading p q meets.frames meets.rest meets.came;
      fault = meets.fault;
      faulty = IsFaulty-append meets.fault meets.rest q meets.faulty;
      after = meets.after;
    } in (
      Some fate.Lost,
      good_takes old (p ++ q) (Some fate.Lost) new (Some w) good is (subst P (sym (ap (λ (x : Wire). x.reading) broken.1)) whole, ap (λ (x : Wire). x.wait) broken.1),
      ap (λ x. fate.Lost ∷ option_to_list x) (broken.0 ∙ ap lost_by idle),
    )

merged_open : (old : Wire) (p q : List ℕ) (w : Wait) (more : ℕ) (second : Option RequestEnd) (middle new : Wire) → (old.reading).held.fault ≡ None → old.wait ≡ Some w
    → StaysOpen (with_bytes old.reading p) w more middle.reading → Hears (record { asked = w.asked; may_drop = more }) (with_bytes middle.reading q) second new → Merged old p q None second new
merged_open old p q w more (Some (fate.Told o)) middle new good is one (two, idle) =
    let whole : Settles (with_bytes old.reading (p ++ q)) w o new.reading = record {
      frames = one.frames ++ two.frames;
      each = each_both one.frames two.frames one.each two.each;
      decided = one.undecided two.frames ∙ two.decided;
      came = came_both old.reading middle.reading p q one.frames two.frames (unused new.reading) one.came one.fed two.came;
      held = two.held;
    } in
    (Some (fate.Told o), good_takes old (p ++ q) (Some (fate.Told o)) new (Some w) good is (whole, idle), refl)
merged_open old p q w more (Some fate.Lost) middle new good is one (two, idle) =
    let whole : MeetsFault (with_bytes old.reading (p ++ q)) w new.reading = record {
      frames = one.frames ++ two.frames;
      each = each_both one.frames two.frames one.each two.each;
      undecided = one.undecided two.frames ∙ two.undecided;
      rest = two.rest;
      came = came_both old.reading middle.reading p q one.frames two.frames two.rest one.came one.fed two.came;
      fault = two.fault;
      faulty = two.faulty;
      after = two.after;
    } in
    (Some fate.Lost, good_takes old (p ++ q) (Some fate.Lost) new (Some w) good is (whole, idle), refl)
merged_open old p q w more None middle new good is one (less, two, waits) =
    let whole : StaysOpen (with_bytes old.reading (p ++ q)) w less new.reading = record {
      frames = one.frames ++ two.frames;
      each = each_both one.frames two.frames one.each two.each;
      dropped = omega (arith, one.dropped, two.dropped, length-append one.frames two.frames);
      undecided = λ behind. ap (decided_within w.asked w.may_drop) (append_assoc one.frames two.frames behind) ∙ one.undecided (two.frames ++ behind) ∙ two.undecided behind;
      some = two.some;
      came = came_both old.reading middle.reading p q one.frames two.frames (new.reading).held.kept one.came one.fed two.came;
      partial = two.partial;
      good = two.good;
      fed = two.fed;
    } in
    (None, good_takes old (p ++ q) None new (Some w) good is (less, whole, waits), refl)

merged_hears : (old : Wire) (p q : List ℕ) (w : Wait) (first second : Option RequestEnd) (middle new : Wire) → (old.reading).held.fault ≡ None → old.wait ≡ Some w
    → Hears w (with_bytes old.reading p) first middle → Takes middle q second new → Merged old p q first second new
merged_hears old p q w (Some (fate.Told o)) second middle new good is hears takes = merged_told old p q w o second middle new good is hears.0 hears.1 takes
merged_hears old p q w (Some fate.Lost) second middle new good is hears takes = merged_lost old p q w second middle new good is hears.0 hears.1 takes
merged_hears old p q w None second middle new good is (more, stays, waits) takes =
    merged_open old p q w more second middle new good is stays (takes_good middle q second new (Some (record { asked = w.asked; may_drop = more })) stays.good waits takes)

merged_for : (wait : Option Wait) (old : Wire) (p q : List ℕ) (first second : Option RequestEnd) (middle new : Wire) → (old.reading).held.fault ≡ None → old.wait ≡ wait
    → HearsFor wait (with_bytes old.reading p) first middle → Takes middle q second new → Merged old p q first second new
merged_for None old p q first second middle new good is hears takes = merged_idle old p q first second middle new good is hears takes
merged_for (Some w) old p q first second middle new good is hears takes = merged_hears old p q w first second middle new good is hears takes

merged_broken : (old : Wire) (p q : List ℕ) (first second : Option RequestEnd) (middle new : Wire) (fault : FrameFault) → (old.reading).held.fault ≡ Some fault
    → Takes old p first middle → Takes middle q second new → Merged old p q first second new
merged_broken old p q first second middle new fault broken one two =
    let was = broken_behind old p first middle fault broken one in
    let P : Wire → Type 0 = λ m. Takes m q second new in
    let now = broken_behind (record old { wait = None }) q second new fault broken (subst P was.1 two) in
    let Q : Option FrameFault → Type 0 = λ f. TakesUnless f old (p ++ q) first new in
    (first, subst Q (sym broken) (was.0, now.1), ap (λ x. option_to_list first ++ option_to_list x) now.0 ∙ append-nil (option_to_list first))

merged_unless : (fault : Option FrameFault) (old : Wire) (p q : List ℕ) (first second : Option RequestEnd) (middle new : Wire) → (old.reading).held.fault ≡ fault
    → Takes old p first middle → Takes middle q second new → Merged old p q first second new
merged_unless None old p q first second middle new is one two = merged_for old.wait old p q first second middle new is refl (takes_good old p first middle old.wait is refl one) two
merged_unless (Some fault) old p q first second middle new is one two = merged_broken old p q first second middle new fault is one two

-- ---- all pieces

as_one : (old : Wire) (piece : List ℕ) (pieces : List (List ℕ)) (fates : List RequestEnd) (new : Wire) → TakesAll old (piece ∷ pieces) fates new
    → (both : Option RequestEnd) × Takes old (piece ++ flat_map (λ p. p) pieces) both new × (fates ≡ option_to_list both)
as_one old piece [] fates new (first, middle, others, takes, rest, is) =
    let P : List ℕ → Type 0 = λ l. Takes old l first new in
    let Q : Wire → Type 0 = λ m. Takes old piece first m in
    (first, subst P (sym (append-nil piece)) (subst Q (sym rest.1) takes), is ∙ ap (λ l. option_to_list first ++ l) rest.0 ∙ append-nil (option_to_list first))
as_one old piece (next ∷ pieces) fates new (first, middle, others, takes, rest, is) =
    let more = as_one middle next pieces others new rest in
    let whole = merged_unless (old.reading).held.fault old piece (next ++ flat_map (λ p. p) pieces) first more.0 middle new refl takes more.1 in
    (whole.0, whole.1, is ∙ ap (λ l. option_to_list first ++ l) more.2 ∙ whole.2)

pub cuts_give_same : CutsGiveTheSame
cuts_give_same old piece other pieces others fates ends new end same one two =
    let a = as_one old piece pieces fates new one in
    let b = as_one old other others ends end two in
    let P : List ℕ → Type 0 = λ l. Takes old l b.0 end in
    let once = takes_once_unless (old.reading).held.fault old _ a.0 b.0 new end a.1 (subst P (sym same) b.1) in
    (a.2 ∙ ap (λ x. option_to_list x) once.0 ∙ sym b.2, once.1)

-- ---- the outcome of a request

told_one : (outcome : Outcome) (both : Option RequestEnd) → fate.Told outcome ∷ [] ≡ option_to_list both → both ≡ Some (fate.Told outcome)
told_one outcome None same = absurd (cc)
told_one outcome (Some f) same = cc

pub outcomes_are_decided : OutcomesAreDecided
outcomes_are_decided pending left asked piece pieces outcome new good taken =
    let old = with_rest (asking pending asked) left in
    let one = as_one old piece pieces (fate.Told outcome ∷ []) new taken in
    let bytes = piece ++ flat_map (λ p. p) pieces in
    let hears = takes_good old bytes one.0 new old.wait good refl one.1 in
    let P : Option RequestEnd → Type 0 = λ f. HearsFor old.wait (with_bytes old.reading bytes) f new in
    let settles = subst P (told_one outcome one.0 one.2) hears in
    (settles.0.frames, (settles.0.each, settles.0.decided), sym (unused_with old.reading bytes) ∙ settles.0.came)
