use Rattle.std.proofs.Common.{◌≡◌, drop}
use Rattle.il_assemble.specs.Elaboration.{nested}
use Rattle.il_assemble.proofs.limits.check_nesting.Given as goal

abbrev pub invariant-loop-statement : goal.invariant-loop-statement
invariant-loop-statement l = nested (drop l.statement-index l.statements) ≡ nested l.statements
