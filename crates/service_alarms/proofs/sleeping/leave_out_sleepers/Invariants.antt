use Rattle.std.proofs.Common.{◌≡◌, ◌++◌, drop}
use Rattle.service_alarms.specs.Sleeping.{awake}
use Rattle.service_alarms.proofs.sleeping.leave_out_sleepers.Given as goal

-- what is done, and then what remains
abbrev pub invariant-loop-alarm : goal.invariant-loop-alarm
invariant-loop-alarm l = awake l.site l.asleep l.all ≡ l.alarms ++ awake l.site l.asleep (drop l.alarm-index l.all)
