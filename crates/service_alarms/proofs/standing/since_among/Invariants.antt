use Rattle.std.proofs.Common.{ℕ, drop}
use Rattle.service_alarms.specs.Changing.{IsSince}
use Rattle.service_alarms.proofs.standing.since_among.Given as goal

-- what holds of what remains, holds of all
abbrev pub invariant-loop-before : goal.invariant-loop-before
invariant-loop-before l = (since : ℕ) → IsSince (drop l.before-index l.stood) l.now l.subject since → IsSince l.stood l.now l.subject since
