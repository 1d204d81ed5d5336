use Rattle.std.proofs.Common.{◌≡◌, drop, pos}
use Rattle.std.specs.List.{list_any}
use Rattle.inverter_sim.specs.File.{is_in}
use Rattle.inverter_sim.proofs.reader.working.has_meter_model.Given as goal

abbrev pub invariant-loop-id : goal.invariant-loop-id
invariant-loop-id l = list_any (is_in (pos 201) (pos 204)) l.ids ≡ list_any (is_in (pos 201) (pos 204)) (drop l.id-index l.ids)
