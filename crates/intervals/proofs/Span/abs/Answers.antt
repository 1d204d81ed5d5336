use Rattle.std.proofs.Common.{rules}
use Rattle.intervals.proofs.Magnitudes.{absolute_holds, absolute_reached}
use Rattle.intervals.proofs.Span.abs.Goals as goal

pub returns-clause-ends : goal.returns-clause-ends
returns-clause-ends c = search rules

pub returns-clause-holds : goal.returns-clause-holds
returns-clause-holds c = rw (returns-clause-ends c) (absolute_holds c.args.self)

pub returns-clause-reached : goal.returns-clause-reached
returns-clause-reached c = rw (returns-clause-ends c) (absolute_reached c.args.self c.requires.ordered)
