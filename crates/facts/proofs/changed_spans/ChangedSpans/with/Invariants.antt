use Rattle.std.proofs.Common.{◌≡◌, ◌++◌, length, slice_set}
use Rattle.facts.specs.Places.{written}
use Rattle.facts.proofs.changed_spans.ChangedSpans.with.Given as goal

abbrev pub invariant-loop-old : goal.invariant-loop-old
invariant-loop-old l = l.changes ++ written l.before l.spans l.span ≡ slice_set l.self l.number l.span

abbrev pub decreases-loop-old : goal.decreases-loop-old
decreases-loop-old l = length l.spans
