use Rattle.std.proofs.Common.{◌≡◌, ◌++◌, ◌-◌}
use Rattle.inverter_sim.specs.Image.{places_from}
use Rattle.inverter_sim.proofs.reader.image.push_places.Given as goal

abbrev pub invariant-loop-before : goal.invariant-loop-before
invariant-loop-before l = l.initial.places.items ++ places_from l.writable 0 l.size ≡ l.places.items ++ places_from l.writable l.before (l.size - l.before)
