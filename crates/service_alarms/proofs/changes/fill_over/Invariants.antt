use Rattle.std.proofs.Common.{List}
use Rattle.service_alarms.specs.declared.alarm.Alarm.{Alarm}
use Rattle.service_alarms.specs.Changing.{AreOver}
use Rattle.service_alarms.specs.Finding.{TellOfAlarms}
use Rattle.service_alarms.proofs.changes.fill_over.Given as goal

abbrev pub invariant-loop-i : goal.invariant-loop-i
invariant-loop-i l = (alarms : List Alarm) → TellOfAlarms l.places alarms → AreOver l.stood alarms l.i l.over
