use Rattle.std.proofs.Common.{◌≡◌, drop}
use Rattle.service_alarms.specs.Hiding.{has_value}
use Rattle.service_alarms.proofs.served.has_value.Given as goal

abbrev pub invariant-loop-part : goal.invariant-loop-part
invariant-loop-part l = has_value l.readings l.parts ≡ has_value l.readings (drop l.part-index l.parts)
