use Rattle.std.proofs.Common.{◌≡◌, ◌++◌, drop}
use Rattle.service_alarms.specs.Alarms.{of_each, of_difference, outputs_differing}
use Rattle.service_alarms.proofs.outputs.push_differences.Given as goal

-- what is done, and then what remains
abbrev pub invariant-loop-i : goal.invariant-loop-i
invariant-loop-i l = l.initial.alarms ++ outputs_differing l.differences ≡ l.alarms ++ of_each of_difference l.i (drop l.i l.differences)
