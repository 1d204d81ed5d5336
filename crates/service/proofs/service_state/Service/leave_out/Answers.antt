use Rattle.service.proofs.Courses.{right_rounds}
use Rattle.service.proofs.service_state.Service.leave_out.Goals as goal

pub invariant_of-self : goal.invariant_of-self
invariant_of-self c = record { rightful = right_rounds _ _ c.args.self.now.lines c.drop_write.ensures.goes c.args.self.now.rightful; right = c.args.self.now.right }
