use Rattle.std.proofs.Common.{◌∙◌, ◌*ℤ◌}
use Rattle.intervals.proofs.Sums.{same_four}
use Rattle.intervals.proofs.Corners.{corners_reached}
use Rattle.intervals.proofs.Products.{product_holds, product_read}
use Rattle.intervals.proofs.Span.mul.Goals as goal

pub returns-clause-ends : goal.returns-clause-ends
returns-clause-ends c =
    let s = c.requires.self_of_lint.in_range in let t = c.requires.other_of_lint.in_range in
    c.over.ensures ∙ same_four _ _ _ _ _ _ _ _ (product_read _ _ s.0 t.0) (product_read _ _ s.0 t.1) (product_read _ _ s.1 t.0) (product_read _ _ s.1 t.1)

pub returns-clause-holds : goal.returns-clause-holds
returns-clause-holds c = rw (returns-clause-ends c) (product_holds c.args.self c.args.other)

pub returns-clause-reached : goal.returns-clause-reached
returns-clause-reached c = rw (returns-clause-ends c) (corners_reached (λ x y. x *ℤ y) c.args.self c.args.other c.requires.self_of_lint.ordered c.requires.other_of_lint.ordered)
