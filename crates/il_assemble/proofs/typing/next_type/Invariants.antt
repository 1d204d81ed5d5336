use Rattle.std.proofs.Common.{◌≡◌, length}
use Rattle.il_assemble.specs.Kept.{seen}
use Rattle.il_assemble.specs.Typing.{next_type}
use Rattle.il_assemble.proofs.typing.next_type.Given as goal

abbrev pub invariant-loop-rest : goal.invariant-loop-rest
invariant-loop-rest l = next_type (seen l.scope) l.rest ≡ next_type (seen l.scope) l.statements

abbrev pub decreases-loop-rest : goal.decreases-loop-rest
decreases-loop-rest l = length l.rest
