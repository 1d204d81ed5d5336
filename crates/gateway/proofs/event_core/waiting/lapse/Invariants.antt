use Rattle.std.proofs.Common.{◌≡◌, ◌++◌, length, take, drop}
use Rattle.site_model.specs.Readings.{AreSettings}
use Rattle.gateway.specs.event_core.SiteRun.{all_held}
use Rattle.gateway.proofs.event_core.waiting.lapse.Given as goal

abbrev pub invariant-loop-i : goal.invariant-loop-i
invariant-loop-i l =
    (all_held l.tags l.ages l.initial.sets ≡ take l.i l.sets ++ all_held (drop l.i l.tags) (drop l.i l.ages) (drop l.i l.sets))
    × AreSettings l.tags l.sets
    × (length l.sets ≡ length l.tags)
