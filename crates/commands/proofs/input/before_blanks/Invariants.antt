use Rattle.std.proofs.Common.{◌≡◌, length}
use Rattle.commands.specs.Input as input
use Rattle.commands.proofs.input.before_blanks.Given as goal

abbrev pub invariant-loop-rest : goal.invariant-loop-rest
invariant-loop-rest l = input.before_blanks l.rest ≡ input.before_blanks l.fn.line

abbrev pub decreases-loop-rest : goal.decreases-loop-rest
decreases-loop-rest l = length l.rest
