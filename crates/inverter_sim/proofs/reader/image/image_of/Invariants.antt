use Rattle.std.proofs.Common.{◌≡◌, drop}
use Rattle.inverter_sim.specs.Image.{with_models, mark}
use Rattle.inverter_sim.specs.Reading.{models_view}
use Rattle.inverter_sim.proofs.reader.image.image_of.Given as goal

abbrev pub invariant-loop-model : goal.invariant-loop-model
invariant-loop-model l = with_models mark (models_view l.models) ≡ with_models l.registers.items (models_view (drop l.model-index l.models))
