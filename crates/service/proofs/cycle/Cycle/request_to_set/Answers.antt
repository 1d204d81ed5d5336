use Rattle.std.proofs.Common.{rules, FitsSigned, subst}
use Rattle.std.specs.Int.{w64}
use Rattle.std.proofs.lemmas.Int.{to_z-of_z}
use Rattle.gateway.specs.event_core.Core.{Gateway}
use Rattle.gateway.specs.event_core.Restoring.{NothingSets}
use Rattle.service.proofs.cycle.Cycle.request_to_set.Goals as goal

pub returns-clause-none : goal.returns-clause-none
returns-clause-none c is_none =
    let f : FitsSigned w64 c.args.number = search rules in
    let none = subst (λ m. NothingSets c.deref.result.now.site c.args.tag m) (to_z-of_z w64 c.args.number f) (c.request_to_set.ensures.none is_none) in
    subst (λ (x : Gateway). NothingSets x.site c.args.tag c.args.number) c.deref.ensures none
