use Rattle.std.proofs.Common.{◌≡◌, length}
use Rattle.commands.specs.Input as input
use Rattle.commands.proofs.input.past_blanks.Given as goal

abbrev pub invariant-loop-rest : goal.invariant-loop-rest
invariant-loop-rest l = input.past_blanks l.rest ≡ input.past_blanks l.fn.line

abbrev pub decreases-loop-rest : goal.decreases-loop-rest
decreases-loop-rest l = length l.rest
