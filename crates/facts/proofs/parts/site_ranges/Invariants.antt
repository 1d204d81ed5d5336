use Rattle.std.proofs.Common.{◌≡◌, ◌++◌, drop, map}
use Rattle.facts.specs.Span.{Between}
use Rattle.facts.proofs.parts.site_ranges.Given as goal

abbrev pub invariant-loop-tag : goal.invariant-loop-tag
invariant-loop-tag l = l.spans.items ++ map (λ t. Between t.low t.high) (drop l.tag-index l.tags) ≡ map (λ t. Between t.low t.high) l.tags
