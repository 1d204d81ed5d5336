use Rattle.std.proofs.Common.{◌≡◌, ◌++◌, length}
use Rattle.facts.specs.Fact.{both_spans, zipped}
use Rattle.facts.proofs.consequences.both_of.Given as goal

abbrev pub invariant-loop-one : goal.invariant-loop-one
invariant-loop-one l = l.spans ++ zipped both_spans l.ones l.others ≡ zipped both_spans l.fn.ones l.fn.others

abbrev pub decreases-loop-one : goal.decreases-loop-one
decreases-loop-one l = length l.ones
