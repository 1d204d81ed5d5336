use Rattle.std.proofs.Common.{◌≡◌, true, pos, length}
use Rattle.commands.specs.Given.{digits}
use Rattle.commands.proofs.number.digits_of.Given as goal

abbrev pub invariant-loop-rest : goal.invariant-loop-rest
invariant-loop-rest l = digits l.kind l.negative l.wanting l.value l.rest ≡ digits l.kind l.negative true (pos 0) l.fn.text

abbrev pub decreases-loop-rest : goal.decreases-loop-rest
decreases-loop-rest l = length l.rest
