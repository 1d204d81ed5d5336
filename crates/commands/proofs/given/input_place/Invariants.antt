use Rattle.std.proofs.Common.{◌≡◌, ℕ, ◌+◌, List, length}
use Rattle.scan_code.specs.declared.image.Tag.{Tag}
use Rattle.commands.specs.Given.{input_from}
use Rattle.commands.proofs.given.input_place.Given as goal

pub record Seeks (i : ℕ) (rest tags : List Tag) (name : List ℕ) : Type 0 where
  pub same : input_from i rest name ≡ input_from 0 tags name
  pub passed : i + length rest ≡ length tags

abbrev pub invariant-loop-rest : goal.invariant-loop-rest
invariant-loop-rest l = Seeks l.i l.rest l.fn.tags l.name

abbrev pub decreases-loop-rest : goal.decreases-loop-rest
decreases-loop-rest l = length l.rest
