use Rattle.std.proofs.Common.{◌≡◌, ◌++◌, List}
use Rattle.service_alarms.specs.Hiding.{AreStoredHidden}
use Rattle.service_alarms.specs.declared.alarm.Alarm.{Alarm}
use Rattle.service_alarms.proofs.served.push_stored.Given as goal

-- those of what is done
abbrev pub invariant-loop-i : goal.invariant-loop-i
invariant-loop-i l = (part : List Alarm) × AreStoredHidden l.site l.outputs l.i part × (l.alarms ≡ l.initial.alarms ++ part)
