use Rattle.std.proofs.Common.{◌≡◌, ◌++◌, length}
use Rattle.facts.specs.Fact.{applied_span, zipped}
use Rattle.facts.proofs.changed_spans.ChangedSpans.narrowed.Given as goal

abbrev pub invariant-loop-span : goal.invariant-loop-span
invariant-loop-span l = l.changes ++ zipped applied_span l.spans l.known ≡ zipped applied_span l.self l.follows

abbrev pub decreases-loop-span : goal.decreases-loop-span
decreases-loop-span l = length l.spans
