use Rattle.std.proofs.Common.{◌≡◌, drop}
use Rattle.il_assemble.specs.Kept.{seen}
use Rattle.il_assemble.specs.StaticFault.{checked_inner}
use Rattle.il_assemble.specs.Written.{written_inner}
use Rattle.il_assemble.proofs.check.+check_simple.Given as goal

abbrev pub invariant-check_inner-loop-line : goal.invariant-check_inner-loop-line
invariant-check_inner-loop-line l =
    (l.rest ≡ drop l.line-index l.inner)
    × (checked_inner (seen l.scope) l.before l.unless_next (written_inner (drop l.line-index l.inner)) ≡ checked_inner (seen l.scope) l.fn.running l.fn.otherwise (written_inner l.inner))
