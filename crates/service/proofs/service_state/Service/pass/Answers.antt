use Rattle.service.proofs.Courses.{right_wait}
use Rattle.service.proofs.service_state.Service.pass.Goals as goal

pub invariant_of-self : goal.invariant_of-self
invariant_of-self c = record { rightful = right_wait _ _ c.args.elapsed c.args.self.now.lines c.pass.ensures.waits c.args.self.now.rightful; right = c.args.self.now.right }
