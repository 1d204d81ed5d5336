use Rattle.std.proofs.Common.{inl, refl}
use Rattle.service.proofs.Counted.{once}
use Rattle.service.proofs.service_state.Service.lose_if_at.Goals as goal

pub returns-then-is_at-clause-counts : goal.returns-then-is_at-clause-counts
returns-then-is_at-clause-counts c = once c.args.device c.args.loss c.args.self.now.side c.lose.new.self.side c.lose.ensures.counts

pub returns-then-is_at-clause-others : goal.returns-then-is_at-clause-others
returns-then-is_at-clause-others c = c.lose.ensures.counts.others

pub returns-else-is_at-clause-counts : goal.returns-else-is_at-clause-counts
returns-else-is_at-clause-counts c k = inl refl
