use Rattle.std.proofs.Common.{◌≡◌, List, drop, length, true}
use Rattle.std.specs.Prelude.{ℤ, Option}
use Rattle.site_model.specs.Readings.{AreSettings}
use Rattle.gateway.specs.event_core.SiteRun.{Sets, are_settings}
use Rattle.gateway.proofs.event_core.setting.set_points.Given as goal

-- what the later points leave is what all of them leave, and these are whole, too
abbrev pub invariant-loop-point : goal.invariant-loop-point
invariant-loop-point l =
    ((new : List (Option ℤ)) → Sets l.tags (drop l.point-index l.points) l.left l.sets new → Sets l.tags l.points l.words l.initial.sets new)
    × ((new : List (Option ℤ)) → Sets l.tags l.points l.words l.initial.sets new → Sets l.tags (drop l.point-index l.points) l.left l.sets new)
    × (are_settings l.tags (drop l.point-index l.points) (length l.left) ≡ true)
    × AreSettings l.tags l.sets
    × (length l.sets ≡ length l.tags)
