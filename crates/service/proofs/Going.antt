-- What is still to be written is taken by requests that begin.
use Rattle.std.proofs.Common.{◌≡◌, ◌≢◌, ◌⊎◌, inl, inr, eqb, ℕ, zero, suc, ◌+◌, ◌≤◌, Bool, true, false, List, [], ◌∷◌, map, position, slice_get, slice_set, Option, None, Some, refl, sym, ap, subst, ◌∙◌, arith, if◌then◌else◌}
use Rattle.std.specs.Prelude.{IfSome}
use Rattle.std.specs.Option.{option_map_or}
use Rattle.std.proofs.lemmas.Bool.Decides.{eqb_tells}
use Rattle.std.proofs.Math.Logic.{∥∥₁_elim, ∥∥₁_prop}
use Rattle.gateway.specs.declared.poller.cycle.Call.{Call}
use Rattle.gateway.specs.event_core.Core.{Gateway}
use Rattle.service_requests.specs.declared.task.TaskMark.{TaskMark}
use Rattle.service_requests.specs.declared.task.TaskMark.TheVariants as mark
use Rattle.service_requests.specs.declared.task.Task.{Task}
use Rattle.service_requests.specs.Tasks.{given_up, is_asked, is_due, next_place, with_mark}
use Rattle.service_parts.specs.declared.asked.Aim.{Aim}
use Rattle.service_parts.specs.declared.device_connection.DeviceConnection.{DeviceConnection}
use Rattle.service_parts.specs.declared.limits.Limits.{Limits}
use Rattle.service_parts.specs.Calls.{write_to}
use Rattle.service_parts.specs.Frames.{IsLed, LinkGoes, TakesDue, due_at, due_by, outputs_of, times_asked}
use Rattle.service_parts.specs.Overdue.{NoneIsLeft, asked_at, is_left}
use Rattle.service_parts.proofs.Frames.{set_other, set_there, still_goes}
use Rattle.service_parts.proofs.Waited.{left_then}
use Rattle.service.specs.declared.device_side.DeviceSide.{DeviceSide}
use Rattle.service.specs.declared.round.Turn.TheVariants as turn
use Rattle.service.specs.declared.service_state.Service.{Service}
use Rattle.service.specs.declared.wish.Wish.{Wish}
use Rattle.service.specs.Going.{BeginsOf, IsOpened, LinksGo, NoMoreDue, WishGoes, tasks_of}
use Rattle.service.specs.Rounds.{AsksWrite, ClosesWrite, OpensWrite, Progress}
use Rattle.service.specs.Stages.{Ends, OpensNext, Skips, Stage}
use Rattle.service.specs.Staying.{Stays}
use Rattle.service.proofs.Marks.{at_place, next_is_due, some_task, with_mark-at}
use Rattle.service.proofs.Sent.{times_here, times_there}

-- ---- what is due

abbrev NoneMore : List Task → List Task → Type 0
NoneMore before after = (output : ℕ) → due_at output after ≤ due_at output before

none_more : (before after : List Task) → NoneMore before after → NoMoreDue before after
none_more before after fewer now limits lines link = still_goes now limits before after lines lines link refl fewer

same_due : (before after : List Task) → after ≡ before → NoneMore before after
same_due before after same = subst (NoneMore before) (sym same) (λ output. omega arith)

due_set : (tasks : List Task) (j : ℕ) (v : Task) → due_by v.mark ≡ 0 → NoneMore tasks (slice_set tasks j v)
due_set [] j v none output = omega arith
due_set (t ∷ tasks) zero v none zero = omega (arith, none)
due_set (t ∷ tasks) zero v none (suc output) = omega arith
due_set (t ∷ tasks) (suc j) v none zero = omega arith
due_set (t ∷ tasks) (suc j) v none (suc output) = due_set tasks j v none output

abbrev due_of : Option Task → ℕ
due_of o = option_map_or (λ (t : Task). due_by t.mark) o 0

-- The write that was due at a place isn't any more.
due_taken : (tasks : List Task) (j : ℕ) (u v : Task) → slice_get tasks j ≡ Some u → due_by u.mark ≡ 1 → due_by v.mark ≡ 0 → (output : ℕ)
    → times_asked output (j ∷ []) + due_at output (slice_set tasks j v) ≤ due_at output tasks
due_taken tasks j u v at due none output = go (eqb_tells j output)
  where
    go : ((eqb j output ≡ true) × (j ≡ output)) ⊎ ((eqb j output ≡ false) × (j ≢ output)) → times_asked output (j ∷ []) + due_at output (slice_set tasks j v) ≤ due_at output tasks
    go (inl here) =
        let P : ℕ → Type 0 = λ k. times_asked k (j ∷ []) + due_at k (slice_set tasks j v) ≤ due_at k tasks in
        subst P here.1 (omega (arith, times_here j j [] refl, ap due_of (set_there tasks j u v at), ap due_of at, none, due))
    go (inr away) = omega (arith, times_there output j [] away.1, ap due_of (set_other tasks j output v (λ same. away.1 (sym same))))

due_given : (t : Task) (b : Bool) → due_by (if b then record t { mark = mark.Done } else t).mark ≤ due_by t.mark
due_given t true = omega arith
due_given t false = omega arith

due_skipped : (device : ℕ) (tasks : List Task) → NoneMore tasks (map (given_up device) tasks)
due_skipped device [] output = omega arith
due_skipped device (t ∷ tasks) zero = due_given t _
due_skipped device (t ∷ tasks) (suc output) = due_skipped device tasks output

due_once : (m : TaskMark) → due_by m ≤ 1
due_once mark.Due = omega arith
due_once mark.Asked = omega arith
due_once mark.Done = omega arith

pub due_most : (o : Option Task) → option_map_or (λ (t : Task). due_by t.mark) o 0 ≤ 1
due_most None = omega arith
due_most (Some t) = due_once t.mark

is_due_by : (device : ℕ) (t : Task) (m : TaskMark) → t.mark ≡ m → is_due device t ≡ true → due_by m ≡ 1
is_due_by device t mark.Due is due = refl
is_due_by device t mark.Asked is due = absurd (cc)
is_due_by device t mark.Done is due = absurd (cc)

-- ---- what a round opens, and what is over

marked : (before after : Progress) (j : ℕ) (m : TaskMark) (u : Task) → due_by m ≡ 0 → slice_get before.writes j ≡ Some u → after ≡ record before { writes = with_mark j m before.writes } → NoneMore before.writes after.writes
marked before after j m u none at is =
    let writes = ap (λ (p : Progress). p.writes) is ∙ with_mark-at before.writes j m u at in
    subst (NoneMore before.writes) (sym writes) (due_set before.writes j (record u { mark = m }) none)

rest_differs : {a : Aim} {c : Call} → turn.Rest ≡ turn.Ask a c → ⊥
rest_differs same = cc

aim_same : {a b : Aim} {c d : Call} → turn.Ask a c ≡ turn.Ask b d → a ≡ b
aim_same same = cc

next_task : (device : ℕ) (tasks : List Task) (i : ℕ) → next_place device tasks ≡ Some i → (u : Task) × (slice_get tasks i ≡ Some u) × (due_by u.mark ≡ 1)
next_task device tasks i next =
    let (u, at, due) = next_is_due device tasks i next in
    (u, at, is_due_by device u u.mark refl due)

module _ (g : Gateway) (device : ℕ) (old new : Progress) where
  asked_due : (made_for : Aim) (call : Call) (i : ℕ) (c : Option Call) → next_place device old.writes ≡ Some i → AsksWrite i c old (turn.Ask made_for call) new → TakesDue made_for old.writes new.writes
  asked_due made_for call i None next asks = absurd (rest_differs (sym asks.0))
  asked_due made_for call i (Some c) next asks =
      let (u, at, due) = next_task device old.writes i next in
      let writes = ap (λ (p : Progress). p.writes) asks.1 ∙ with_mark-at old.writes i mark.Asked u at in
      let P : Aim → Type 0 = λ a. TakesDue a old.writes new.writes in
      let Q : List Task → Type 0 = λ l. (output : ℕ) → times_asked output (i ∷ []) + due_at output l ≤ due_at output old.writes in
      subst P (sym (aim_same asks.0)) (record { each = subst Q (sym writes) (due_taken old.writes i u (record u { mark = mark.Asked }) at due refl) })

  takes_due : (made_for : Aim) (call : Call) (o : Option ℕ) → next_place device old.writes ≡ o → OpensWrite g device o old (turn.Ask made_for call) new → TakesDue made_for old.writes new.writes
  takes_due made_for call None next opens = absurd (rest_differs (sym opens.0))
  takes_due made_for call (Some i) next (plan, planned, asks) = asked_due made_for call i (write_to device g.site.devices plan) next asks

  rests_due : (i : ℕ) (c : Option Call) → next_place device old.writes ≡ Some i → AsksWrite i c old turn.Rest new → NoneMore old.writes new.writes
  rests_due i None next asks = let (u, at, due) = next_task device old.writes i next in marked old new i mark.Done u refl at asks.1
  rests_due i (Some c) next asks = absurd (rest_differs asks.0)

  rests_opens : (o : Option ℕ) → next_place device old.writes ≡ o → OpensWrite g device o old turn.Rest new → NoneMore old.writes new.writes
  rests_opens None next opens = same_due old.writes new.writes (ap (λ (p : Progress). p.writes) opens.1)
  rests_opens (Some i) next (plan, planned, asks) = rests_due i (write_to device g.site.devices plan) next asks

  closes_due : (o : Option ℕ) → position (is_asked device) old.writes ≡ o → ClosesWrite o old new → NoneMore old.writes new.writes
  closes_due None is closes = same_due old.writes new.writes (ap (λ (p : Progress). p.writes) closes)
  closes_due (Some j) is closes = let (u, at, own) = at_place (is_asked device) old.writes j some_task is in marked old new j mark.Done u refl at closes

pub asks_next : (device : ℕ) (made_for : Aim) (call : Call) (s t : Stage) → OpensNext device (turn.Ask made_for call) s t → TakesDue made_for s.round.writes t.round.writes
asks_next device made_for call s t is = takes_due s.core device s.round t.round made_for call (next_place device s.round.writes) refl is.opens

pub rests_next : (device : ℕ) (s t : Stage) → OpensNext device turn.Rest s t → NoMoreDue s.round.writes t.round.writes
rests_next device s t is = none_more s.round.writes t.round.writes (rests_opens s.core device s.round t.round (next_place device s.round.writes) refl is.opens)

pub ends_due : (device : ℕ) (s t : Stage) → Ends device s t → NoMoreDue s.round.writes t.round.writes
ends_due device s t is = none_more s.round.writes t.round.writes (closes_due s.core device s.round t.round (position (is_asked device) s.round.writes) refl is.closes)

pub skips_due : (device : ℕ) (s t : Stage) → Skips device s t → NoMoreDue s.round.writes t.round.writes
skips_due device s t is =
    none_more s.round.writes t.round.writes (subst (NoneMore s.round.writes) (sym (ap (λ (x : Stage). x.round.writes) is)) (due_skipped device s.round.writes))

-- ---- a service

-- a request that writes nothing takes nothing
pub reads_go : (wish : Option Wish) (old new : Service) → IfSome wish (λ w. outputs_of w.aim ≡ []) → LinksGo old new → WishGoes wish old new
reads_go None old new reads goes = goes
reads_go (Some wish) old new reads goes = record {
  before = tasks_of new;
  goes = goes;
  takes = record { each = λ output. omega (arith, ap (times_asked output) reads) };
}

-- the same at a time that is the same
pub goes_then : (old new : DeviceSide) → new.now ≡ old.now → new.limits ≡ old.limits → (link : ℕ) (tasks : List Task) (lines : List DeviceConnection) (left : List Task) (after : List DeviceConnection)
    → LinkGoes old.now old.limits link tasks lines left after → LinkGoes new.now new.limits link tasks lines left after
goes_then old new now limits link tasks lines left after goes =
    let at_time : LinkGoes new.now old.limits link tasks lines left after = subst (λ (t : ℕ). LinkGoes t old.limits link tasks lines left after) (sym now) goes in
    subst (λ (l : Limits). LinkGoes new.now l link tasks lines left after) (sym limits) at_time

pub begun_go : (made_for : Aim) (old middle new : Service) → IsOpened made_for old middle → BeginsOf made_for middle new → Stays middle new → LinksGo old new
begun_go made_for old middle new opened begins stays link most from led =
    begins opened.before opened.takes link most from (goes_then middle.side new.side stays.time.side.now stays.time.side.limits link _ _ _ _ (opened.goes link) most from led)

-- after a run of the program each output that is still to be written may be once more
once_more : (now : ℕ) (limits : Limits) (most : ℕ → ℕ) (from : DeviceConnection) (before after : List Task) (lines : List DeviceConnection) (link : ℕ) → IsLed now limits most from before lines link → IsLed now limits (λ output. most output + due_at output after) from after lines link
once_more now limits most from before after lines link led = record {
  line = led.line;
  there = led.there;
  course = led.course;
  within = λ output. omega (arith, led.within output);
}

pub scanned_goes : (now : ℕ) (limits : Limits) (before after : List Task) (lines : List DeviceConnection) (link : ℕ) (most : ℕ → ℕ) (from : DeviceConnection) → ∥ IsLed now limits most from before lines link ∥₁ → ∥ IsLed now limits (λ output. most output + due_at output after) from after lines link ∥₁
scanned_goes now limits before after lines link most from led = ∥∥₁_elim led ∥∥₁_prop (λ l. ∣ once_more now limits most from before after lines link l ∣₁)

-- Where none is left whose time is over, none is after the rest of a call. The writes that may begin are more where the program runs.
pub none_left : (time : ℕ) (more : (ℕ → ℕ) → ℕ → ℕ) (old middle new : Service) → new.side.now ≡ middle.side.now → new.side.limits ≡ middle.side.limits → middle.side.now ≡ time
    → NoneIsLeft time old.lines.lines.items middle.lines.lines.items → LinksGo old middle
    → ((link : ℕ) (most : ℕ → ℕ) (from : DeviceConnection) → ∥ IsLed new.side.now new.side.limits most from (tasks_of middle) middle.lines.lines.items link ∥₁ → ∥ IsLed new.side.now new.side.limits (more most) from (tasks_of new) new.lines.lines.items link ∥₁)
    → NoneIsLeft time old.lines.lines.items new.lines.lines.items
none_left time more old middle new now limits at none goes then_goes link line there =
    let same : new.side.now ≡ time = now ∙ at in
    subst (λ n. is_left n (asked_at new.lines.lines.items link) ≡ false) same
    (left_then new.side.now new.side.limits more (tasks_of old) (tasks_of middle) (tasks_of new) old.lines.lines.items middle.lines.lines.items new.lines.lines.items link
    (goes_then middle.side new.side now limits link _ _ _ _ (goes link)) (then_goes link) line there
    (subst (λ n. is_left n (asked_at middle.lines.lines.items link) ≡ false) (sym same) (none link line there)))
