use Rattle.std.proofs.Common.{◌≡◌, ℕ, ◌+◌, ◌≤◌, List, Option, length}
use Rattle.point_types.specs.declared.reading.Reading.{Reading}
use Rattle.scan_code.specs.declared.image.Tag.{Tag}
use Rattle.commands.specs.Input.{lines_of}
use Rattle.commands.specs.Given.{slots_given}
use Rattle.commands.proofs.given.fill.Given as goal

pub record Fills (number : ℕ) (rest lines : List ℕ) (tags : List Tag) (start slots : List (Option Reading)) : Type 0 where
  pub same : slots_given tags start 1 (lines_of lines) ≡ slots_given tags slots number (lines_of rest)
  pub counted : number + length rest ≤ length lines + 1
  pub places : length slots ≡ length tags

abbrev pub invariant-loop-rest : goal.invariant-loop-rest
invariant-loop-rest l = Fills l.number l.rest l.fn.lines l.tags l.fn.slots l.slots

abbrev pub decreases-loop-rest : goal.decreases-loop-rest
decreases-loop-rest l = length l.rest
