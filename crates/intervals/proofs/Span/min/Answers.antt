use Rattle.std.proofs.Common.{rules}
use Rattle.intervals.proofs.Sums.{lesser_holds, lesser_reached, lesser_of_lint}
use Rattle.intervals.proofs.Span.min.Goals as goal

pub returns-clause-ends : goal.returns-clause-ends
returns-clause-ends c = search rules

pub returns-clause-of_lint : goal.returns-clause-of_lint
returns-clause-of_lint c = rw (returns-clause-ends c) (lesser_of_lint c.args.self c.args.other c.requires.self_of_lint c.requires.other_of_lint)

pub returns-clause-holds : goal.returns-clause-holds
returns-clause-holds c = rw (returns-clause-ends c) (lesser_holds c.args.self c.args.other)

pub returns-clause-reached : goal.returns-clause-reached
returns-clause-reached c = rw (returns-clause-ends c) (lesser_reached c.args.self c.args.other c.requires.self_of_lint.ordered c.requires.other_of_lint.ordered)
