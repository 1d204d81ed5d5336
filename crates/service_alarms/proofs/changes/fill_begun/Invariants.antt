use Rattle.service_alarms.specs.Changing.{AreBegun}
use Rattle.service_alarms.proofs.changes.fill_begun.Given as goal

abbrev pub invariant-loop-i : goal.invariant-loop-i
invariant-loop-i l = AreBegun l.stood l.alarms l.i l.begun
