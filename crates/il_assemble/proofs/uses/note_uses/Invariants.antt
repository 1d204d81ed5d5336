use Rattle.std.proofs.Common.{◌≡◌, drop}
use Rattle.il_assemble.specs.Kept.{seen}
use Rattle.il_assemble.specs.Names.{uses_after}
use Rattle.il_assemble.proofs.uses.note_uses.Given as goal

abbrev pub invariant-loop-statement : goal.invariant-loop-statement
invariant-loop-statement l =
    uses_after (seen l.scope) l.uses (drop l.statement-index l.statements) ≡ uses_after (seen l.scope) l.initial.uses l.statements
