use Rattle.std.proofs.Common.{◌≡◌, length, slice_get}
use Rattle.facts.proofs.changed_spans.ChangedSpans.get.Given as goal

abbrev pub invariant-loop-span : goal.invariant-loop-span
invariant-loop-span l = slice_get l.spans l.before ≡ slice_get l.self l.number

abbrev pub decreases-loop-span : goal.decreases-loop-span
decreases-loop-span l = length l.spans
