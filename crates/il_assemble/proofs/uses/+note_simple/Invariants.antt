use Rattle.std.proofs.Common.{◌≡◌, drop}
use Rattle.il_assemble.specs.Kept.{seen}
use Rattle.il_assemble.specs.Names.{uses_of_inner}
use Rattle.il_assemble.specs.Written.{written_inner}
use Rattle.il_assemble.proofs.uses.+note_simple.Given as goal

abbrev pub invariant-note_inner-loop-line : goal.invariant-note_inner-loop-line
invariant-note_inner-loop-line l =
    uses_of_inner (seen l.scope) l.uses (written_inner (drop l.line-index l.inner)) ≡ uses_of_inner (seen l.scope) l.initial.uses (written_inner l.inner)
