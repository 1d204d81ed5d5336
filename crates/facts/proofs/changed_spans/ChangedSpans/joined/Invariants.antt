use Rattle.std.proofs.Common.{◌≡◌, ◌++◌, length}
use Rattle.facts.specs.Fact.{zipped}
use Rattle.facts.specs.Span.{joined}
use Rattle.facts.proofs.changed_spans.ChangedSpans.joined.Given as goal

abbrev pub invariant-loop-one : goal.invariant-loop-one
invariant-loop-one l = l.changes ++ zipped joined l.ones l.others ≡ zipped joined l.self l.other

abbrev pub decreases-loop-one : goal.decreases-loop-one
decreases-loop-one l = length l.ones
