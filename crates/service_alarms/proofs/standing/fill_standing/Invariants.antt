use Rattle.service_alarms.specs.Changing.{AreStanding}
use Rattle.service_alarms.proofs.standing.fill_standing.Given as goal

abbrev pub invariant-loop-i : goal.invariant-loop-i
invariant-loop-i l = AreStanding l.stood l.alarms l.now l.i l.standing
