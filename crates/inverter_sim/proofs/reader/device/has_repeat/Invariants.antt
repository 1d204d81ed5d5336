use Rattle.std.proofs.Common.{◌≡◌, length}
use Rattle.inverter_sim.specs.File.{has_repeat}
use Rattle.inverter_sim.proofs.reader.device.has_repeat.Given as goal

abbrev pub invariant-loop-rest : goal.invariant-loop-rest
invariant-loop-rest l = has_repeat l.numbers ≡ has_repeat l.rest

abbrev pub decreases-loop-rest : goal.decreases-loop-rest
decreases-loop-rest l = length l.rest
