use Rattle.std.proofs.Common.{◌≡◌, ◌++◌, drop}
use Rattle.service_alarms.specs.Alarms.{of_each, of_output, outputs_unwritten}
use Rattle.service_alarms.proofs.outputs.push_outputs.Given as goal

-- what is done, and then what remains
abbrev pub invariant-loop-i : goal.invariant-loop-i
invariant-loop-i l = l.initial.alarms ++ outputs_unwritten l.outputs ≡ l.alarms ++ of_each of_output l.i (drop l.i l.outputs)
