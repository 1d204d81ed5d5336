use Rattle.std.proofs.Common.{drop}
use Rattle.service_alarms.specs.Changing.{Stood}
use Rattle.service_alarms.proofs.changes.is_among.Given as goal

-- it stood just where it is one of what remains
abbrev pub invariant-loop-before : goal.invariant-loop-before
invariant-loop-before l = (Stood (drop l.before-index l.stood) l.alarm → Stood l.stood l.alarm) × (Stood l.stood l.alarm → Stood (drop l.before-index l.stood) l.alarm)
