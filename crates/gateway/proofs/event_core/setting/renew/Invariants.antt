use Rattle.std.proofs.Common.{◌≡◌, length}
use Rattle.gateway.specs.event_core.SiteRun.{renewed}
use Rattle.gateway.proofs.event_core.setting.renew.Given as goal

abbrev pub invariant-loop-left : goal.invariant-loop-left
invariant-loop-left l = (renewed l.tags l.points l.registers l.initial.ages ≡ renewed l.tags l.rest l.left l.ages) × (length l.ages ≡ length l.initial.ages)

abbrev pub decreases-loop-left : goal.decreases-loop-left
decreases-loop-left l = length l.rest
