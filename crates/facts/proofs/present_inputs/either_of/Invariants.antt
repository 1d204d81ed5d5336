use Rattle.std.proofs.Common.{◌≡◌, ◌++◌, length}
use Rattle.facts.specs.Fact.{zipped}
use Rattle.facts.specs.Places.{either_place}
use Rattle.facts.proofs.present_inputs.either_of.Given as goal

abbrev pub invariant-loop-one : goal.invariant-loop-one
invariant-loop-one l = l.marks ++ zipped either_place l.ones l.others ≡ zipped either_place l.fn.ones l.fn.others

abbrev pub decreases-loop-one : goal.decreases-loop-one
decreases-loop-one l = length l.ones
