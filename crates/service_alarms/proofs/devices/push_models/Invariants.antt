use Rattle.std.proofs.Common.{◌≡◌, ◌++◌, drop}
use Rattle.service_alarms.specs.Alarms.{models_missing}
use Rattle.service_alarms.proofs.devices.push_models.Given as goal

-- what is done, and then what remains
abbrev pub invariant-loop-want : goal.invariant-loop-want
invariant-loop-want l = l.initial.alarms ++ models_missing l.maps l.wants ≡ l.alarms ++ models_missing l.maps (drop l.want-index l.wants)
