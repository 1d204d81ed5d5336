use Rattle.std.proofs.Common.{◌≡◌, ◌+◌, ◌++◌, ℕ, List, length, take, drop}
use Rattle.gateway.specs.served.Points.{all_registers}
use Rattle.gateway.specs.served.ServedImage.{AreServed}
use Rattle.gateway.proofs.served.serve.Given as goal

-- whatever serves the later points, the whole is served by what stands so far and that
abbrev pub invariant-loop-point : goal.invariant-loop-point
invariant-loop-point l =
    ((behind : List ℕ) → AreServed l.site l.known.outputs.items l.known.readings.items l.known.sets.items (drop l.point-index l.points) behind
    → AreServed l.site l.known.outputs.items l.known.readings.items l.known.sets.items l.points (take l.at l.image ++ behind))
    × (l.at + all_registers (drop l.point-index l.points) ≡ length l.image)
    × (length l.image ≡ length l.initial.image)
