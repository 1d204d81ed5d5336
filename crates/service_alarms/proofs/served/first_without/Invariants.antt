use Rattle.std.proofs.Common.{◌≡◌, drop}
use Rattle.service_alarms.specs.Hiding.{first_without}
use Rattle.service_alarms.proofs.served.first_without.Given as goal

-- those that were looked at have one
abbrev pub invariant-loop-part : goal.invariant-loop-part
invariant-loop-part l = first_without l.readings l.parts ≡ first_without l.readings (drop l.part-index l.parts)
