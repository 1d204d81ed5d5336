use Rattle.std.proofs.Common.{rules, arith}
use Rattle.std.proofs.lemmas.Int.{ints}
use Rattle.intervals.proofs.Span.within.Goals as goal

pub returns-then-contains : goal.returns-then-contains
returns-then-contains c = (
  λ t.
      let low = c.if-contains.ensures.0 (search rules) in let high = c.contains-then-contains.ensures.0 t in
      ((omega (arith, ints, low.0), omega (arith, ints, low.1)), (omega (arith, ints, high.0), omega (arith, ints, high.1))),
  λ h. c.contains-then-contains.ensures.1 (omega (arith, ints, h.1.0), omega (arith, ints, h.1.1)),
)
