use Rattle.std.proofs.Common.{◌≡◌, ◌++◌, List}
use Rattle.service_alarms.specs.Hiding.{AreSumsHidden}
use Rattle.service_alarms.specs.declared.alarm.Alarm.{Alarm}
use Rattle.service_alarms.proofs.served.push_sums.Given as goal

-- those of what is done
abbrev pub invariant-loop-i : goal.invariant-loop-i
invariant-loop-i l = (part : List Alarm) × AreSumsHidden l.site l.readings l.i part × (l.alarms ≡ l.initial.alarms ++ part)
