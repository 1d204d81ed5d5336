use Rattle.std.proofs.Common.{◌≡◌, ◌++◌, drop}
use Rattle.std.specs.List.{flat_map}
use Rattle.inverter_sim.specs.Image.{fixed_pair, places_of_model}
use Rattle.inverter_sim.specs.Reading.{models_view}
use Rattle.inverter_sim.proofs.reader.image.places_of.Given as goal

abbrev pub invariant-loop-model : goal.invariant-loop-model
invariant-loop-model l = fixed_pair ++ flat_map places_of_model (models_view l.models) ≡ l.places.items ++ flat_map places_of_model (models_view (drop l.model-index l.models))
