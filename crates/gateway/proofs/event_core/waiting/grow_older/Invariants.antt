use Rattle.std.proofs.Common.{◌≡◌, ◌++◌, length, take, drop}
use Rattle.gateway.specs.event_core.SiteRun.{all_older}
use Rattle.gateway.proofs.event_core.waiting.grow_older.Given as goal

abbrev pub invariant-loop-age : goal.invariant-loop-age
invariant-loop-age l = (all_older l.ms l.initial.ages ≡ take l.age-index l.ages ++ all_older l.ms (drop l.age-index l.ages)) × (length l.ages ≡ length l.initial.ages)
