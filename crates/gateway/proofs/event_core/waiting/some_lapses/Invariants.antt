use Rattle.std.proofs.Common.{◌≡◌, drop}
use Rattle.gateway.specs.event_core.SiteRun.{all_held}
use Rattle.gateway.proofs.event_core.waiting.some_lapses.Given as goal

abbrev pub invariant-loop-i : goal.invariant-loop-i
invariant-loop-i l = all_held (drop l.i l.tags) (drop l.i l.ages) (drop l.i l.sets) ≡ drop l.i l.sets → all_held l.tags l.ages l.sets ≡ l.sets
