use Rattle.std.proofs.Common.{◌≡◌, ◌++◌, drop}
use Rattle.std.specs.List.{flat_map}
use Rattle.inverter_sim.specs.Image.{places_of_point}
use Rattle.inverter_sim.proofs.reader.image.push_places_of.Given as goal

abbrev pub invariant-loop-point : goal.invariant-loop-point
invariant-loop-point l = l.initial.places.items ++ flat_map places_of_point l.point-items ≡ l.places.items ++ flat_map places_of_point (drop l.point-index l.point-items)
