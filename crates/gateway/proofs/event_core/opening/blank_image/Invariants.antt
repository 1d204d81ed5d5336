use Rattle.std.proofs.Common.{◌≡◌, ◌+◌, length, drop}
use Rattle.gateway.specs.served.Points.{all_registers}
use Rattle.gateway.proofs.event_core.opening.blank_image.Given as goal

abbrev pub invariant-loop-point : goal.invariant-loop-point
invariant-loop-point l = all_registers l.points ≡ length l.image.items + all_registers (drop l.point-index l.points)
