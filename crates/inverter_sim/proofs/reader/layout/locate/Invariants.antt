use Rattle.std.proofs.Common.{◌≡◌, ◌+◌, ◌≤◌, drop}
use Rattle.std.specs.Prelude.{sum_by}
use Rattle.inverter_sim.specs.Image.{placed, placed_from}
use Rattle.inverter_sim.specs.Reading.{models_view}
use Rattle.inverter_sim.proofs.reader.layout.locate.Given as goal

abbrev pub invariant-loop-model : goal.invariant-loop-model
invariant-loop-model l =
    (placed l.lowest l.highest (models_view l.models) ≡ placed_from l.at l.lowest l.highest (models_view (drop l.model-index l.models)))
    × (l.at + sum_by (λ m. m.length + 2) (models_view (drop l.model-index l.models)) ≤ 65534)
