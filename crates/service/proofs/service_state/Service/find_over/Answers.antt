use Rattle.service.proofs.Courses.{right_rounds}
use Rattle.service.proofs.service_state.Service.find_over.Goals as goal

pub invariant_of-self-then-not-is_sought_over : goal.invariant_of-self-then-not-is_sought_over
invariant_of-self-then-not-is_sought_over c = record { rightful = right_rounds _ _ c.args.self.now.lines c.seek_anew.ensures.goes c.args.self.now.rightful; right = c.args.self.now.right }
