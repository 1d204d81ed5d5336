use Rattle.std.proofs.Common.{rules}
use Rattle.intervals.proofs.Sums.{joined_of_lint, joined_is_least}
use Rattle.intervals.proofs.Span.join.Goals as goal

pub returns-clause-ends : goal.returns-clause-ends
returns-clause-ends c = search rules

pub returns-clause-of_lint : goal.returns-clause-of_lint
returns-clause-of_lint c = rw (returns-clause-ends c) (joined_of_lint c.args.self c.args.other c.requires.self_of_lint c.requires.other_of_lint)

pub returns-clause-least : goal.returns-clause-least
returns-clause-least c = rw (returns-clause-ends c) (joined_is_least c.args.self c.args.other)
