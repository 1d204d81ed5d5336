use Rattle.service.proofs.Courses.{right_adopted}
use Rattle.service.proofs.service_state.Service.adopt.Goals as goal

pub invariant_of-self : goal.invariant_of-self
invariant_of-self c = record { rightful = right_adopted _ _ _ _ c.args.self.now.lines c.adopt.ensures.adopted c.adopt.ensures.kept c.args.self.now.rightful; right = c.args.self.now.right }
