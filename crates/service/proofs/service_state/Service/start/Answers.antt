use Rattle.service.specs.Cycle.{stage_of}
use Rattle.service.proofs.Saying.{right_noted}
use Rattle.service.proofs.Courses.{core_reached}
use Rattle.service.proofs.Together.{begun_together}
use Rattle.service.proofs.service_state.Service.start.Goals as goal

pub invariant_of-self : goal.invariant_of-self
invariant_of-self c =
    let own = c.args.self.now in
    record { rightful = c.begin.ensures.rightful own.cycle.core.value (core_reached (stage_of own.cycle) own.cycle.reached) c.requires.asked own.rightful; right = right_noted c.args.self.now.held.identities c.args.self.now.lines c.begin.new.self c.begin.ensures.found own.right }

pub returns-clause-together : goal.returns-clause-together
returns-clause-together c = λ held first paired before.
    begun_together held first c.args.self.now.lines c.begin.new.self c.args.self.now.side.now c.args.self.now.side.limits c.args.link c.args.asked c.begin.ensures.links c.requires.timed c.begin.ensures.lines c.begin.ensures.others paired before
