use Rattle.std.proofs.Common.{◌≡◌, length}
use Rattle.facts.specs.Fact.{same_list, same_optional}
use Rattle.facts.proofs.consequences.same_spans.Given as goal

abbrev pub invariant-loop-one : goal.invariant-loop-one
invariant-loop-one l = same_list same_optional l.ones l.others ≡ same_list same_optional l.fn.ones l.fn.others

abbrev pub decreases-loop-one : goal.decreases-loop-one
decreases-loop-one l = length l.ones
