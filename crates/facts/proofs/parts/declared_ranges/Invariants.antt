use Rattle.std.proofs.Common.{◌≡◌, ◌++◌, drop, map}
use Rattle.facts.specs.Span.{Between}
use Rattle.facts.proofs.parts.declared_ranges.Given as goal

abbrev pub invariant-loop-variable : goal.invariant-loop-variable
invariant-loop-variable l = l.spans.items ++ map (λ d. Between d.low d.high) (drop l.variable-index l.variables) ≡ map (λ d. Between d.low d.high) l.variables
