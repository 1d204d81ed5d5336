use Rattle.std.proofs.Common.{◌≡◌, ℕ, ◌+◌, List, length}
use Rattle.commands.specs.Given.{equals_from}
use Rattle.commands.proofs.given.equals_sign.Given as goal

pub record Seeks (i : ℕ) (rest line : List ℕ) : Type 0 where
  pub same : equals_from i rest ≡ equals_from 0 line
  pub passed : i + length rest ≡ length line

abbrev pub invariant-loop-rest : goal.invariant-loop-rest
invariant-loop-rest l = Seeks l.i l.rest l.fn.line

abbrev pub decreases-loop-rest : goal.decreases-loop-rest
decreases-loop-rest l = length l.rest
