use Rattle.std.proofs.Common.{◌≡◌, ◌++◌, length, map}
use Rattle.facts.specs.Numbered.{numbers_of}
use Rattle.facts.specs.Places.{is_filled}
use Rattle.facts.proofs.present_inputs.filled_numbers.Given as goal

abbrev pub invariant-loop-mark : goal.invariant-loop-mark
invariant-loop-mark l = l.numbers ++ numbers_of l.number (map is_filled l.marks) ≡ numbers_of 0 (map is_filled l.fn.marks)

abbrev pub decreases-loop-mark : goal.decreases-loop-mark
decreases-loop-mark l = length l.marks
