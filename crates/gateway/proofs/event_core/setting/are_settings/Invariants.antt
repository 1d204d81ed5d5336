use Rattle.std.proofs.Common.{◌≡◌, length}
use Rattle.gateway.specs.event_core.SiteRun.{are_settings}
use Rattle.gateway.proofs.event_core.setting.are_settings.Given as goal

abbrev pub invariant-loop-left : goal.invariant-loop-left
invariant-loop-left l = are_settings l.tags l.points l.registers ≡ are_settings l.tags l.rest l.left

abbrev pub decreases-loop-left : goal.decreases-loop-left
decreases-loop-left l = length l.rest
