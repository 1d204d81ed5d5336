use Rattle.std.proofs.Common.{◌≡◌, drop}
use Rattle.il_assemble.specs.Code.{version_of}
use Rattle.il_assemble.specs.Elaboration.{limits_of}
use Rattle.il_assemble.proofs.assembler.version.Given as goal

abbrev pub invariant-loop-statement : goal.invariant-loop-statement
invariant-loop-statement l = version_of (limits_of (drop l.statement-index l.statements)) ≡ version_of (limits_of l.statements)
