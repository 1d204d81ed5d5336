-- What the blocks and the scan make of a core, the machine included, and back.
use Rattle.std.proofs.Common.{◌≡◌, ℕ, ◌≤◌, ◌<◌, List, [], ◌∷◌, length, map, Option, Some, None, Result, Ok, Err, refl, sym, ap, subst, ◌∙◌}
use Rattle.std.specs.Prelude.{⊤, ℤ, slice_get}
use Rattle.point_types.specs.declared.reading.Reading.{Reading}
use Rattle.register_map.specs.Layout.{Layout}
use Rattle.scan_code.specs.Machine.{Ending, Ended, State, Unfinished, opening, run}
use Rattle.scan_vm.specs.Machine.{Running, Scans}
use Rattle.site_model.specs.Readings.{AreReadings, AreSettings, known_at}
use Rattle.site_model.specs.declared.site.Site.{Site}
use Rattle.site_model.specs.declared.tag.SiteTag.{SiteTag}
use Rattle.site_model.specs.declared.want.Want.{Want}
use Rattle.point_writer.specs.SetPoint.{IsPlan, IsPlanAt, IsSetPoint, PointPlace}
use Rattle.point_writer.specs.declared.write.NoWrite.{NoWrite}
use Rattle.point_writer.specs.declared.write.Write.{Write}
use Rattle.verifier.specs.Verified.{Acceptance}
use Rattle.gateway.proofs.Sized.{are_set_points, tag_of}
use Rattle.point_writer.proofs.Companions.{companions_of_write}
use Rattle.point_writer.specs.Going.{AreCompanionsSet}
use Rattle.gateway.specs.declared.event_core.event.Answer.{Answer}
use Rattle.gateway.specs.declared.event_core.event.Answer.TheVariants as answer
use Rattle.gateway.specs.declared.event_core.event.Event.{Event}
use Rattle.gateway.specs.declared.event_core.event.Event.TheVariants as event
use Rattle.gateway.specs.declared.poller.cycle.Call.{Call}
use Rattle.gateway.specs.declared.poller.outcome.Outcome.{Outcome}
use Rattle.gateway.specs.declared.poller.outcome.Outcome.TheVariants as outcome
use Rattle.gateway.specs.event_core.Control.{HasItsCompanions, IsDue, IsPlanned, Notes, SetsItsTag, after_scan, after_wait}
use Rattle.gateway.specs.event_core.Core.{Gateway, IsSame, numbers_of}
use Rattle.gateway.specs.event_core.Driving.{ScansOnce, TakesEvent}
use Rattle.gateway.specs.event_core.SiteRun.{Standing, after_time, reading_at, scanned}
use Rattle.gateway.specs.poller.Cycle.{ArePlans, Turn, ReadsBlock, ReadsBlocks, RunsTo, TakesBlocks, event_by, read_of}
use Rattle.gateway.specs.poller.LinkRun.{Exchange}
use Rattle.gateway.specs.poller.Polling.{Polling}

-- ---- a core by its parts

abbrev made : Site → List (Option Layout) → Running → Standing → Gateway
made site maps machine standing = record { site = site; maps = maps; machine = machine; standing = standing }

by_parts : (s t : Gateway) (machine : Running) (standing : Standing) → IsSame s t → t.machine ≡ machine → t.standing ≡ standing → t ≡ made s.site s.maps machine standing
by_parts s t machine standing same m h =
    ap (λ (x : Site). made x t.maps t.machine t.standing) same.site
    ∙ ap (λ (x : List (Option Layout)). made s.site x t.machine t.standing) same.maps
    ∙ ap (λ (x : Running). made s.site s.maps x t.standing) m
    ∙ ap (λ (x : Standing). made s.site s.maps machine x) h

-- the machine's variables are those of the site run
abbrev pub IsHeld : Gateway → Type 0
IsHeld g = g.machine.variables ≡ g.standing.variables

-- ---- time

-- time that went by changes nothing else
pub waits_so : (depth : ℕ) (s : Gateway) (ms : ℕ) → TakesEvent depth s (event.Time ms) answer.None (after_wait ms s)
waits_so depth s ms = (((refl, refl), record { site = refl; maps = refl; accepted = refl }), refl)

pub waited_so : (s t : Gateway) (ms : ℕ) (r : Answer) → IsSame s t → t.machine ≡ s.machine → (r ≡ answer.None) × (t.standing ≡ after_time s.site ms s.standing) → t ≡ after_wait ms s
waited_so s t ms r same m h = by_parts s t s.machine (after_time s.site ms s.standing) same m h.1

-- ---- blocks

abbrev IsBlock : Event → Type 0
IsBlock (event.Block want words) = ⊤
IsBlock (event.Lost want) = ⊤
IsBlock (event.Time ms) = ⊥
IsBlock event.Scan = ⊥
IsBlock (event.Client pdu) = ⊥

abbrev AreBlocks : List Event → Type 0
AreBlocks [] = ⊤
AreBlocks (e ∷ es) = IsBlock e × AreBlocks es

by_outcome : (want : Want) (o : Outcome) → IsBlock (event_by want o)
by_outcome want (outcome.Words words) = tt
by_outcome want (outcome.Exception e) = tt
by_outcome want outcome.Wrote = tt
by_outcome want outcome.Mismatch = tt
by_outcome want outcome.Stale = tt

is_block : (want : Want) (call : Option Call) (es : List Exchange) (e : Event) → ReadsBlock want call es e → IsBlock e
is_block want None es e h = subst IsBlock (sym h.1) tt
is_block want (Some call) es e (x, one, asks, is) = subst IsBlock (sym is) (by_outcome want x.outcome)

are_blocks : (site : Site) (maps : List (Option Layout)) (wants : List Want) (es : List Exchange) (events : List Event) → ReadsBlocks site maps wants es events → AreBlocks events
are_blocks site maps [] es events h = subst AreBlocks (sym h.1) tt
are_blocks site maps (want ∷ wants) es events (own, others, e, more, split, is, one, rest) =
    subst AreBlocks (sym is) (is_block want (read_of site maps want) own e one, are_blocks site maps wants others more rest)

noted : (depth : ℕ) (s : Gateway) (e : Event) (r : Answer) (t : Gateway) → IsBlock e → TakesEvent depth s e r t → Notes s e r t
noted depth s (event.Block want words) r t is h = by_parts s t s.machine _ h.0.1 h.1 h.0.0.1
noted depth s (event.Lost want) r t is h = by_parts s t s.machine _ h.0.1 h.1 h.0.0.1
noted depth s (event.Time ms) r t is h = absurd is
noted depth s event.Scan r t is h = absurd is
noted depth s (event.Client pdu) r t is h = absurd is

noted_all : (depth : ℕ) (s : Gateway) (es : List Event) (t : Gateway) → AreBlocks es → RunsTo (TakesEvent depth) s es t → RunsTo Notes s es t
noted_all depth s [] t are h = h
noted_all depth s (e ∷ es) t are (r, u, step, rest) = (r, u, noted depth s e r u are.0 step, noted_all depth u es t are.1 rest)

pub notes_blocks : (depth : ℕ) (site : Site) (maps : List (Option Layout)) (wants : List Want) (p : Polling) (s : Gateway) (q : Polling) (t : Gateway) (lost : ℕ)
    → TakesBlocks (TakesEvent depth) site maps wants p s q t lost → TakesBlocks Notes site maps wants p s q t lost
notes_blocks depth site maps wants p s q t lost h = record {
  es = h.es;
  events = h.events;
  blocks = h.blocks;
  talks = h.talks;
  runs = noted_all depth s h.events t (are_blocks site maps wants h.es h.events h.blocks) h.runs;
  counted = h.counted;
}

taken : (depth : ℕ) (s : Gateway) (e : Event) (r : Answer) (t : Gateway) → Notes s e r t → TakesEvent depth s e answer.None t
taken depth s (event.Block want words) r t h = subst (λ (x : Gateway). TakesEvent depth s (event.Block want words) answer.None x) (sym h) (((refl, refl), record { site = refl; maps = refl; accepted = refl }), refl)
taken depth s (event.Lost want) r t h = subst (λ (x : Gateway). TakesEvent depth s (event.Lost want) answer.None x) (sym h) (((refl, refl), record { site = refl; maps = refl; accepted = refl }), refl)
taken depth s (event.Time ms) r t h = subst (λ (x : Gateway). TakesEvent depth s (event.Time ms) answer.None x) (sym h) (((refl, refl), record { site = refl; maps = refl; accepted = refl }), refl)
taken depth s event.Scan r t h = absurd h
taken depth s (event.Client pdu) r t h = absurd h

taken_all : (depth : ℕ) (s : Gateway) (es : List Event) (t : Gateway) → RunsTo Notes s es t → RunsTo (TakesEvent depth) s es t
taken_all depth s [] t h = h
taken_all depth s (e ∷ es) t (r, u, step, rest) = (answer.None, u, taken depth s e r u step, taken_all depth u es t rest)

pub takes_blocks : (depth : ℕ) (site : Site) (maps : List (Option Layout)) (wants : List Want) (p : Polling) (s : Gateway) (q : Polling) (t : Gateway) (lost : ℕ)
    → TakesBlocks Notes site maps wants p s q t lost → TakesBlocks (TakesEvent depth) site maps wants p s q t lost
takes_blocks depth site maps wants p s q t lost h = record {
  es = h.es;
  events = h.events;
  blocks = h.blocks;
  talks = h.talks;
  runs = taken_all depth s h.events t h.runs;
  counted = h.counted;
}

held_one : (s : Gateway) (e : Event) (r : Answer) (t : Gateway) → Notes s e r t → IsHeld s → IsHeld t
held_one s (event.Block want words) r t h held = subst IsHeld (sym h) held
held_one s (event.Lost want) r t h held = subst IsHeld (sym h) held
held_one s (event.Time ms) r t h held = subst IsHeld (sym h) held
held_one s event.Scan r t h held = absurd h
held_one s (event.Client pdu) r t h held = absurd h

pub held_all : (s : Gateway) (es : List Event) (t : Gateway) → RunsTo Notes s es t → IsHeld s → IsHeld t
held_all s [] t h held = subst IsHeld h held
held_all s (e ∷ es) t (r, u, step, rest) held = held_all u es t rest (held_one s e r u step held)

-- ---- the scan

-- how a program ends on these readings
abbrev pub ending_on : Acceptance → List Reading → List ℤ → ℕ → Ending
ending_on a readings variables n = run a.image (map (reading_at readings) (numbers_of a)) 0 n (opening a.image variables)

abbrev pub ending : Gateway → List Reading → List ℤ → ℕ → Ending
ending s readings variables n = ending_on s.machine.accepted readings variables n

abbrev pub IsShallow : ℕ → Gateway → List Reading → Type 0
IsShallow depth s readings = (n : ℕ) (x : State) → ending s readings s.standing.variables n ≡ Unfinished x → length x.deferred ≤ depth

abbrev machine_of : Gateway → State → Running
machine_of s x = record { accepted = s.machine.accepted; variables = x.variables; outputs = x.outputs }

abbrev end_in : State → Ending → State
end_in d (Ended n x) = x
end_in d other = d

-- the core after a scan
pub record IsBehind (depth : ℕ) (s t : Gateway) (readings : List Reading) (steps : ℕ) (end : State) : Type 0 where
  pub core : t ≡ after_scan s readings steps end
  pub shallow : IsShallow depth s readings

pub behind_scan : (depth : ℕ) (s t : Gateway) (readings : List Reading) (steps : ℕ) (end : State) → IsHeld s → IsSame s t → ScansOnce depth s t
    → t.standing ≡ scanned s.site (numbers_of s.machine.accepted) s.standing readings steps end → ending s readings s.standing.variables s.machine.accepted.budget ≡ Ended steps end
    → IsBehind depth s t readings steps end
behind_scan depth s t readings steps end held same once after ended =
    let read : (t.standing.last).readings ≡ readings = ap (λ (x : Standing). (x.last).readings) after in
    let d = subst (λ (rs : List Reading). Scans depth s.machine (map (reading_at rs) (numbers_of s.machine.accepted)) (t.standing.last).steps t.machine) read once in
    let ends = subst (λ (vs : List ℤ). ending s readings vs s.machine.accepted.budget ≡ Ended (t.standing.last).steps d.last) held d.ends in
    let same_end : end ≡ d.last = ap (end_in end) (sym ended ∙ ends) in
    let machine = d.after ∙ ap (λ (x : State). machine_of s x) (sym same_end) in
    record {
      core = by_parts s t _ _ same machine after;
      shallow = subst (λ (vs : List ℤ). (n : ℕ) (x : State) → ending s readings vs n ≡ Unfinished x → length x.deferred ≤ depth) held d.shallow;
    }

-- and back
pub scanned_so : (depth : ℕ) (s t : Gateway) (readings : List Reading) (steps : ℕ) (end : State) → IsHeld s → t ≡ after_scan s readings steps end
    → length readings ≡ length s.site.tags → AreReadings s.site.tags s.site.wants s.standing.blocks s.standing.sets s.standing.elapsed readings
    → ending s readings s.standing.variables s.machine.accepted.budget ≡ Ended steps end → steps ≤ s.machine.accepted.budget → IsShallow depth s readings
    → TakesEvent depth s event.Scan (answer.Writes (length s.site.outs)) t
scanned_so depth s t readings steps end held is each read ended bounded shallow =
    subst (λ (x : Gateway). TakesEvent depth s event.Scan (answer.Writes (length s.site.outs)) x) (sym is) (
      ((refl, record { readings = readings; each = each; read = read; steps = steps; end = end; ended = ended; bounded = bounded; after = refl }), record { site = refl; maps = refl; accepted = refl }),
      record {
        last = end;
        ends = subst (λ (vs : List ℤ). ending s readings vs s.machine.accepted.budget ≡ Ended steps end) (sym held) ended;
        bounded = bounded;
        shallow = subst (λ (vs : List ℤ). (n : ℕ) (x : State) → ending s readings vs n ≡ Unfinished x → length x.deferred ≤ depth) (sym held) shallow;
        after = refl;
      },
    )

pub held_behind : (s t : Gateway) (readings : List Reading) (steps : ℕ) (end : State) → t ≡ after_scan s readings steps end → IsHeld t
held_behind s t readings steps end is = subst IsHeld (sym is) refl

-- ---- what is due

same_some : {X : Type 0} {o : Option X} {x y : X} → o ≡ Some x → o ≡ Some y → x ≡ y
same_some p q = cc

-- those that the tag of a write goes with
with_companions : (g : Gateway) (i : ℕ) (w : Write) → i < length g.site.outs → IsPlanned g i (Ok w) → HasItsCompanions g i
with_companions g i w within h number out =
    let tag = tag_of g.site i g.site.written within in
    let set = companions_of_write g.site.tags g.site.wants g.maps (g.standing.last).blocks (g.standing.last).outputs tag.0 tag.2 w (h.plan tag.0 tag.2 tag.1 tag.3) in
    let same : tag.0 ≡ number = same_some tag.1 out in
    subst (λ (n : ℕ). AreCompanionsSet g.site.tags g.site.wants g.maps (g.standing.last).blocks (g.standing.last).outputs n) same set

due_of : (g : Gateway) (i : ℕ) (r : Result Write NoWrite) → i < length g.site.outs → IsPlanned g i r → IsDue g i r
due_of g i (Ok w) within h = (are_set_points g i w within h, with_companions g i w within h)
due_of g i (Err cause) within h = h.plan

pub due_all : (site : Site) (g : Gateway) (turns : List Turn) → g.site ≡ site → ArePlans IsPlanned site g turns → ArePlans IsDue site g turns
due_all site g [] same h = tt
due_all site g (turn ∷ turns) same (within, planned, rest) =
    (within, due_of g turn.output turn.plan (subst (λ (x : Site). turn.output < length x.outs) (sym same) within) planned, due_all site g turns same rest)

pub due_one : (g : Gateway) (i : ℕ) (r : Result Write NoWrite) → i < length g.site.outs → IsPlanned g i r → IsDue g i r
due_one g i r within h = due_of g i r within h

-- what the tag of a set point is: the output's own
module _ (g : Gateway) (i : ℕ) (w : Write) (of : SetsItsTag g i w) where
  abbrev at : SiteTag → Option ℤ → Write → Type 0
  at t n v = (value : ℤ) × (n ≡ Some value) × IsSetPoint g.maps g.site.wants (g.standing.last).blocks t value v

  set_at : (number : ℕ) (t : SiteTag) (v : Write) → slice_get g.site.outs i ≡ Some number → slice_get g.site.tags number ≡ Some t → ◌≡◌ {A = Result Write NoWrite} (Ok w) (Ok v) → at t (known_at (g.standing.last).outputs number) v
  set_at number t v out tag same =
      let n : of.number ≡ number = same_some of.output out in
      let u : of.tag ≡ t = same_some (subst (λ (k : ℕ). slice_get g.site.tags k ≡ Some of.tag) n of.named) tag in
      let x : w ≡ v = cc in
      subst (λ (k : ℕ). at t (known_at (g.standing.last).outputs k) v) n
      (subst (λ (k : SiteTag). at k (known_at (g.standing.last).outputs of.number) v) u
      (subst (λ (k : Write). at of.tag (known_at (g.standing.last).outputs of.number) k) x (of.value, of.stored, of.sets)))

planned_at : (g : Gateway) (i : ℕ) (w : Write) (t : SiteTag) (n : Option ℤ) (value : ℤ) → n ≡ Some value → IsSetPoint g.maps g.site.wants (g.standing.last).blocks t value w → IsPlan g.maps g.site.wants (g.standing.last).blocks t n (Ok w)
planned_at g i w t n value e set =
    subst (λ (k : Option ℤ). IsPlan g.maps g.site.wants (g.standing.last).blocks t k (Ok w)) (sym e)
    (subst (λ (k : Option PointPlace). IsPlanAt k t value (Ok w)) (sym set.placed) set.sets)

planned_of : (g : Gateway) (i : ℕ) (r : Result Write NoWrite) → AreSettings g.site.tags (g.standing.last).outputs → IsDue g i r → IsPlanned g i r
planned_of g i (Ok w) ranged h = record {
  plan = λ number t out tag. let k = set_at g i w h.0 number t w out tag refl in record { alone = Ok w; plan = planned_at g i w t (known_at (g.standing.last).outputs number) k.0 k.1 k.2; goes = (refl, h.1 number out) };
  set_point = λ number t v out tag same. set_at g i w h.0 number t v out tag same;
  ranged = ranged;
}
planned_of g i (Err cause) ranged h = record { plan = h; set_point = λ number t v out tag same. absurd (cc); ranged = ranged }

pub planned_all : (site : Site) (g : Gateway) (turns : List Turn) → AreSettings g.site.tags (g.standing.last).outputs → ArePlans IsDue site g turns → ArePlans IsPlanned site g turns
planned_all site g [] ranged h = tt
planned_all site g (turn ∷ turns) ranged (within, due, rest) = (within, planned_of g turn.output turn.plan ranged due, planned_all site g turns ranged rest)

pub planned_one : (g : Gateway) (i : ℕ) (r : Result Write NoWrite) → AreSettings g.site.tags (g.standing.last).outputs → IsDue g i r → IsPlanned g i r
planned_one g i r ranged h = planned_of g i r ranged h
