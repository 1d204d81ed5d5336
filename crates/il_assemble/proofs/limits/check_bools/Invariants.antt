use Rattle.std.proofs.Common.{◌≡◌, drop}
use Rattle.il_assemble.specs.Elaboration.{undivided}
use Rattle.il_assemble.proofs.limits.check_bools.Given as goal

abbrev pub invariant-loop-variable : goal.invariant-loop-variable
invariant-loop-variable l = undivided (drop l.variable-index l.variables) ≡ undivided l.variables
