-- What is written next to a device is a call of it.
use Rattle.std.proofs.Common.{◌≡◌, ◌<◌, length, subst, ℕ, Option, Some, None, Result, Ok, Err, position, refl, sym, ◌∙◌}
use Rattle.std.proofs.lemmas.Option.{slice_get_within}
use Rattle.point_writer.specs.declared.write.Write.{Write}
use Rattle.point_writer.specs.declared.write.NoWrite.{NoWrite}
use Rattle.gateway.specs.declared.poller.cycle.Call.{Call}
use Rattle.gateway.specs.event_core.Control.{IsPlanned}
use Rattle.gateway.specs.event_core.Core.{Gateway}
use Rattle.gateway.proofs.Sized.{are_set_points}
use Rattle.service.specs.declared.round.Turn.{Turn}
use Rattle.service.specs.declared.round.Turn.TheVariants as turn
use Rattle.service_requests.specs.Tasks.{is_asked, is_due, next_place}
use Rattle.service_parts.specs.Calls.{write_to}
use Rattle.service.specs.Rounds.{AsksWrite, IsRoundFor, Opens, OpensWrite, Progress}
use Rattle.service.proofs.Marks.{at_place, next_is_due, some_task}
use Rattle.service_parts.specs.declared.asked.Aim.{Aim}
use Rattle.service_parts.specs.declared.asked.Aim.TheVariants as aim
use Rattle.service_parts.specs.Calls.{IsCallFor}

-- what a round asks for, and by which call
aim_same : {a b : Aim} {c d : Call} → turn.Ask a c ≡ turn.Ask b d → a ≡ b
aim_same same = cc

ask_same : {a b : Aim} {c d : Call} → turn.Ask a c ≡ turn.Ask b d → c ≡ d
ask_same same = cc

rest_differs : {a : Aim} {c : Call} → turn.Rest ≡ turn.Ask a c → ⊥
rest_differs same = cc

none_differs : {c : Call} → None ≡ Some c → ⊥
none_differs same = cc

module _ (g : Gateway) (device : ℕ) (old : Progress) (t : Turn) (new : Progress) (made_for : Aim) (call : Call) (fits : IsRoundFor g.site old) (is : t ≡ turn.Ask made_for call) where
  made : (a : Aim) (c : Call) → t ≡ turn.Ask a c → IsCallFor g a device c → IsCallFor g made_for device call
  made a c asks call_for =
      let P : Aim → Type 0 = λ x. IsCallFor g x device call in
      subst P (aim_same (sym asks ∙ is)) (subst (IsCallFor g a device) (ask_same (sym asks ∙ is)) call_for)

  inside_of : (i : ℕ) → next_place device old.writes ≡ Some i → i < length g.site.outs
  inside_of i next =
      let (task, at, due) = next_is_due device old.writes i next in
      subst (λ n. i < n) fits.writes (slice_get_within old.writes i task at)

  write_by : (i : ℕ) (plan : Result Write NoWrite) (c : Option Call) → i < length g.site.outs → IsPlanned g i plan → write_to device g.site.devices plan ≡ c → AsksWrite i c old t new → IsCallFor g made_for device call
  write_by i plan None inside planned written asks = absurd (rest_differs (sym asks.0 ∙ is))
  write_by i (Ok w) (Some c) inside planned written asks = made (aim.Output i) c asks.0 (record { write = w; sets = are_set_points g i w inside planned; written = written })
  write_by i (Err cause) (Some c) inside planned written asks = absurd (none_differs written)

  writes : (o : Option ℕ) → next_place device old.writes ≡ o → OpensWrite g device o old t new → IsCallFor g made_for device call
  writes None next opens = absurd (rest_differs (sym opens.0 ∙ is))
  writes (Some i) next (plan, planned, asks) = write_by i plan (write_to device g.site.devices plan) (inside_of i next) planned refl asks

pub opened_call : (g : Gateway) (device : ℕ) (old : Progress) (t : Turn) (new : Progress) (made_for : Aim) (call : Call) → IsRoundFor g.site old → Opens g device old t new → t ≡ turn.Ask made_for call → IsCallFor g made_for device call
opened_call g device old t new made_for call fits opens is = writes g device old t new made_for call fits is (next_place device old.writes) refl opens
