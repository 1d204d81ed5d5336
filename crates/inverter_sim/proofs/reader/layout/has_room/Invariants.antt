use Rattle.std.proofs.Common.{◌≡◌, ◌+◌, ◌≤◌, drop, unsigned_abs}
use Rattle.std.specs.Prelude.{sum_by}
use Rattle.inverter_sim.specs.File.{map_length}
use Rattle.inverter_sim.specs.Reading.{models_view}
use Rattle.inverter_sim.proofs.reader.layout.has_room.Given as goal

abbrev pub invariant-loop-model : goal.invariant-loop-model
invariant-loop-model l = (unsigned_abs l.base + map_length (models_view l.models) ≡ l.end + sum_by (λ m. m.length + 2) (models_view (drop l.model-index l.models))) × (l.end ≤ 65538)
