use Rattle.std.proofs.Common.{◌≡◌, ℕ, ◌+◌, List, length}
use Rattle.commands.specs.Input as input
use Rattle.commands.proofs.input.line_length.Given as goal

pub record Counts (count : ℕ) (rest text : List ℕ) : Type 0 where
  pub lines : count + input.line_length rest ≡ input.line_length text
  pub bytes : count + length rest ≡ length text

abbrev pub invariant-loop-rest : goal.invariant-loop-rest
invariant-loop-rest l = Counts l.count l.rest l.fn.text

abbrev pub decreases-loop-rest : goal.decreases-loop-rest
decreases-loop-rest l = length l.rest
