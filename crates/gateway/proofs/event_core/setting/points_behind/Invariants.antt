use Rattle.std.proofs.Common.{◌≡◌, length}
use Rattle.gateway.specs.event_core.SiteRun.{points_behind}
use Rattle.gateway.proofs.event_core.setting.points_behind.Given as goal

abbrev pub invariant-loop-left : goal.invariant-loop-left
invariant-loop-left l = points_behind l.points l.registers ≡ points_behind l.rest l.left

abbrev pub decreases-loop-left : goal.decreases-loop-left
decreases-loop-left l = length l.rest
