use Rattle.service.proofs.Courses.{right_rounds}
use Rattle.service.proofs.Saying.{found_same, right_found_if}
use Rattle.service.proofs.service_state.Service.find.Goals as goal

pub invariant_of-self : goal.invariant_of-self
invariant_of-self c = record {
  rightful = right_rounds _ _ c.find-is_found.new.self c.learn.ensures.goes (c.find-is_found.ensures.rightful _ c.args.self.now.rightful);
  right = right_found_if c.find-is_found.result c.args.self.now.held.identities c.find_if.new.self.identities c.args.self.now.lines.found_on.items c.find-is_found.new.self.found_on.items c.args.device c.args.number c.args.self.now.right c.requires.right c.find_if.ensures.wanted c.find_if.ensures.sized c.find_if.ensures.found c.find-is_found.ensures.noted
      (λ none. found_same c.args.self.now.lines c.find-is_found.new.self (c.find-is_found.ensures.none none));
}
