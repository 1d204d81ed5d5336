use Rattle.service.proofs.Counted.{once, once_after}
use Rattle.service.proofs.Saying.{right_noted}
use Rattle.service.proofs.Courses.{right_rounds}
use Rattle.service.proofs.Together.{all_together}
use Rattle.service.proofs.service_state.Service.miss.Goals as goal

pub invariant_of-self : goal.invariant_of-self
invariant_of-self c = record { rightful = right_rounds _ _ c.missed.new.self c.seek_anew.ensures.goes (c.missed.ensures.rightful _ c.args.self.now.rightful); right = right_noted c.args.self.now.held.identities c.args.self.now.lines c.missed.new.self c.missed.ensures.found c.args.self.now.right }

pub returns-then-is_bad-clause-counts : goal.returns-then-is_bad-clause-counts
returns-then-is_bad-clause-counts c = once_after c.args.loss c.args.self.now.side c.miss.new.self c.lose_all.new.self.side c.miss.ensures.counts c.lose_all.ensures.counts

pub returns-else-is_bad-clause-counts : goal.returns-else-is_bad-clause-counts
returns-else-is_bad-clause-counts c = once_after c.args.loss c.args.self.now.side c.miss.new.self c.lose.new.self.side c.miss.ensures.counts (once c.args.device c.args.loss c.miss.new.self c.lose.new.self.side c.lose.ensures.counts)

pub returns-then-is_bad-clause-together : goal.returns-then-is_bad-clause-together
returns-then-is_bad-clause-together c = λ held first within before. c.lose_all.ensures.together held first within (all_together held first c.args.self.now.lines c.missed.new.self c.missed.ensures.links c.missed.ensures.lines before)

pub returns-else-is_bad-clause-together : goal.returns-else-is_bad-clause-together
returns-else-is_bad-clause-together c = λ held first within before. c.lose.ensures.together held first within (all_together held first c.args.self.now.lines c.missed.new.self c.missed.ensures.links c.missed.ensures.lines before)
