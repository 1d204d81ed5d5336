use Rattle.std.proofs.Common.{◌≡◌, ◌++◌}
use Rattle.inverter_sim.specs.Image.{padded}
use Rattle.inverter_sim.proofs.reader.image.push_blank.Given as goal

abbrev pub invariant-loop-left : goal.invariant-loop-left
invariant-loop-left l = l.initial.registers.items ++ padded l.size l.words ≡ l.registers.items ++ padded l.left l.rest

abbrev pub decreases-loop-left : goal.decreases-loop-left
decreases-loop-left l = l.left
