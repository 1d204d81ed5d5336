use Rattle.std.proofs.Common.{arith}
use Rattle.std.proofs.lemmas.Int.{ints}
use Rattle.intervals.proofs.Sums.{same_ends, difference_reached}
use Rattle.intervals.proofs.Span.sub.Goals as goal

pub returns-clause-ends : goal.returns-clause-ends
returns-clause-ends c = same_ends _ _ _ _ (omega (arith, ints)) (omega (arith, ints))

pub returns-clause-reached : goal.returns-clause-reached
returns-clause-reached c = rw (returns-clause-ends c) (difference_reached c.args.self c.args.other c.requires.self_of_lint.ordered c.requires.other_of_lint.ordered)
