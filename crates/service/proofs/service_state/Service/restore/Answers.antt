use Rattle.std.proofs.Common.{rules, FitsSigned, subst}
use Rattle.std.specs.Int.{w64}
use Rattle.std.proofs.lemmas.Int.{to_z-of_z}
use Rattle.gateway.specs.event_core.Restoring.{NothingSets}
use Rattle.service.proofs.Courses.{right_clients}
use Rattle.service.proofs.service_state.Service.restore.Goals as goal

pub invariant_of-self : goal.invariant_of-self
invariant_of-self c = record { rightful = right_clients _ _ c.args.self.now.lines c.restore.ensures.goes c.args.self.now.rightful; right = c.args.self.now.right }

pub returns-clause-refused : goal.returns-clause-refused
returns-clause-refused c refused =
    let f : FitsSigned w64 c.args.number = search rules in
    let nothing = c.restore.ensures.refused refused in
    (nothing.0, subst (λ m. NothingSets c.args.self.now.cycle.core.value.site c.args.tag m) (to_z-of_z w64 c.args.number f) nothing.1)
