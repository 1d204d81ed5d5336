use Rattle.std.proofs.Common.{◌≡◌, ◌++◌, drop}
use Rattle.service_alarms.specs.Alarms.{inputs_missing, of_each, of_input}
use Rattle.service_alarms.proofs.inputs.push_inputs.Given as goal

-- what is done, and then what remains
abbrev pub invariant-loop-i : goal.invariant-loop-i
invariant-loop-i l = l.initial.alarms ++ inputs_missing l.readings l.tags ≡ l.alarms ++ of_each (of_input l.readings) l.i (drop l.i l.tags)
