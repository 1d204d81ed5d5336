use Rattle.std.proofs.Common.{◌≡◌, length}
use Rattle.facts.specs.Fact.{any_empty}
use Rattle.facts.proofs.changed_spans.ChangedSpans.any_empty.Given as goal

abbrev pub invariant-loop-span : goal.invariant-loop-span
invariant-loop-span l = any_empty l.spans ≡ any_empty l.self

abbrev pub decreases-loop-span : goal.decreases-loop-span
decreases-loop-span l = length l.spans
