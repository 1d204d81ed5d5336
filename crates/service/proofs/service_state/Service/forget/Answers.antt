use Rattle.std.proofs.Common.{refl}
use Rattle.service.proofs.Saying.{right_same}
use Rattle.service.proofs.Courses.{right_rounds}
use Rattle.service.proofs.service_state.Service.forget.Goals as goal

pub invariant_of-self : goal.invariant_of-self
invariant_of-self c = record { rightful = right_rounds _ _ c.args.self.now.lines (λ from before. c.seek_anew.ensures.goes from (c.skip_writes.ensures.goes from (c.forget.ensures.goes from before))) c.args.self.now.rightful; right = right_same _ _ _ _ c.forget-2.ensures.identities refl c.args.self.now.right }
