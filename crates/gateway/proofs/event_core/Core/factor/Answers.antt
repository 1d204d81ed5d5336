use Rattle.std.proofs.Common.{List, ℕ, subst}
use Rattle.std.specs.Prelude.{Option}
use Rattle.register_map.specs.Layout.{Layout}
use Rattle.point_writer.specs.SetPoint.{IsFactorFor}
use Rattle.gateway.specs.event_core.Core.{Gateway}
use Rattle.gateway.proofs.event_core.Core.factor.Goals as goal

pub returns : goal.returns
returns g c =
    let site = c.self.inside.site in
    let a = subst (λ (xs : List (Option (List ℕ))). IsFactorFor site.tags site.outs site.wants c.deref-2.result.now xs c.args.i c.factor.result) c.deref.ensures.value c.factor.ensures in
    let b = subst (λ (xs : List (Option Layout)). IsFactorFor site.tags site.outs site.wants xs c.self.inside.known.scanned.items c.args.i c.factor.result) c.deref-2.ensures.value a in
    subst (λ (s : Gateway). IsFactorFor s.site.tags s.site.outs s.site.wants s.maps s.standing.last.blocks c.args.i c.factor.result) c.self.view_is b
