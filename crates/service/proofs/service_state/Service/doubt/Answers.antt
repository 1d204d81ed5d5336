use Rattle.service.proofs.Saying.{right_noted}
use Rattle.service.proofs.Courses.{right_rounds}
use Rattle.service.proofs.Together.{all_together}
use Rattle.service.proofs.service_state.Service.doubt.Goals as goal

pub invariant_of-self : goal.invariant_of-self
invariant_of-self c = record { rightful = right_rounds _ _ c.missed.new.self c.drop_write.ensures.goes (c.missed.ensures.rightful _ c.args.self.now.rightful); right = right_noted c.args.self.now.held.identities c.args.self.now.lines c.missed.new.self c.missed.ensures.found c.args.self.now.right }

pub returns-clause-together : goal.returns-clause-together
returns-clause-together c = λ held first within before. all_together held first c.args.self.now.lines c.missed.new.self c.missed.ensures.links c.missed.ensures.lines before
