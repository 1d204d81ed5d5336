use Rattle.std.proofs.Common.{◌≡◌, ◌+◌, length}
use Rattle.inverter_sim.specs.Serve.{are_whole}
use Rattle.inverter_sim.proofs.device.are_whole.Given as goal

-- what remains decides, and the registers before it are counted
abbrev pub invariant-loop-rest : goal.invariant-loop-rest
invariant-loop-rest l = (are_whole 0 l.places ≡ are_whole l.before l.rest) × (l.before + length l.rest ≡ length l.places)

abbrev pub decreases-loop-rest : goal.decreases-loop-rest
decreases-loop-rest l = length l.rest
