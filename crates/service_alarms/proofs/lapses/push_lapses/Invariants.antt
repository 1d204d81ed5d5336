use Rattle.std.proofs.Common.{◌≡◌, ◌++◌, drop}
use Rattle.service_alarms.specs.Alarms.{of_each, of_setting, sets_missing}
use Rattle.service_alarms.proofs.lapses.push_lapses.Given as goal

-- what is done, and then what remains
abbrev pub invariant-loop-i : goal.invariant-loop-i
invariant-loop-i l = l.initial.alarms ++ sets_missing l.running l.ages l.tags ≡ l.alarms ++ of_each (of_setting l.running l.ages) l.i (drop l.i l.tags)
