use Rattle.std.proofs.Common.{rules, FitsSigned, refl, subst}
use Rattle.std.specs.Int.{w64}
use Rattle.std.proofs.lemmas.Int.{to_z-of_z}
use Rattle.gateway.specs.event_core.Restoring.{NothingSets}
use Rattle.service.proofs.cycle.Cycle.restore.Goals as goal

pub returns-in-None-clause-refused : goal.returns-in-None-clause-refused
returns-in-None-clause-refused c refused =
    let f : FitsSigned w64 c.args.number = search rules in
    (refl, subst (λ m. NothingSets c.args.self.now.core.value.site c.args.tag m) (to_z-of_z w64 c.args.number f) (c.request_to_set.ensures.none c.in-None.is))
