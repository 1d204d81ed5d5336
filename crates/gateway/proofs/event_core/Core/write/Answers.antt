use Rattle.std.proofs.Common.{List, ℕ, subst}
use Rattle.std.specs.Prelude.{ℤ, Option}
use Rattle.register_map.specs.Layout.{Layout}
use Rattle.site_model.specs.Readings.{AreSettings}
use Rattle.point_writer.specs.Going.{IsPlanFor}
use Rattle.point_writer.specs.SetPoint.{WritesASetPoint}
use Rattle.gateway.specs.event_core.Core.{Gateway}
use Rattle.gateway.proofs.Sized.{write_sized}
use Rattle.gateway.proofs.event_core.Core.write.Goals as goal

pub plan-requires-clause-ranged : goal.plan-requires-clause-ranged
plan-requires-clause-ranged g c = rw c.deref.ensures.value c.self.invariant.known.stored

pub returns-clause-plan : goal.returns-clause-plan
returns-clause-plan g c =
    let site = c.self.inside.site in
    let a = subst (λ (xs : List (Option ℤ)). IsPlanFor site.tags site.outs site.wants c.deref-3.result.now c.deref-2.result.now xs c.args.i c.plan.result) c.deref.ensures.value c.plan.ensures.plan in
    let b = subst (λ (xs : List (Option (List ℕ))). IsPlanFor site.tags site.outs site.wants c.deref-3.result.now xs c.self.inside.known.outputs.items c.args.i c.plan.result) c.deref-2.ensures.value a in
    let d = subst (λ (xs : List (Option Layout)). IsPlanFor site.tags site.outs site.wants xs c.self.inside.known.scanned.items c.self.inside.known.outputs.items c.args.i c.plan.result) c.deref-3.ensures.value b in
    subst (λ (s : Gateway). IsPlanFor s.site.tags s.site.outs s.site.wants s.maps s.standing.last.blocks s.standing.last.outputs c.args.i c.plan.result) c.self.view_is d

pub returns-clause-set_point : goal.returns-clause-set_point
returns-clause-set_point g c =
    let site = c.self.inside.site in
    let a = subst (λ (xs : List (Option ℤ)). WritesASetPoint site.tags site.outs site.wants c.deref-3.result.now c.deref-2.result.now xs c.args.i c.plan.result) c.deref.ensures.value c.plan.ensures.set_point in
    let b = subst (λ (xs : List (Option (List ℕ))). WritesASetPoint site.tags site.outs site.wants c.deref-3.result.now xs c.self.inside.known.outputs.items c.args.i c.plan.result) c.deref-2.ensures.value a in
    let d = subst (λ (xs : List (Option Layout)). WritesASetPoint site.tags site.outs site.wants xs c.self.inside.known.scanned.items c.self.inside.known.outputs.items c.args.i c.plan.result) c.deref-3.ensures.value b in
    subst (λ (s : Gateway). WritesASetPoint s.site.tags s.site.outs s.site.wants s.maps s.standing.last.blocks s.standing.last.outputs c.args.i c.plan.result) c.self.view_is d

pub returns-clause-ranged : goal.returns-clause-ranged
returns-clause-ranged g c = subst (λ (s : Gateway). AreSettings s.site.tags s.standing.last.outputs) c.self.view_is c.self.invariant.known.stored

pub returns-clause-sized : goal.returns-clause-sized
returns-clause-sized g c =
    let site = c.args.self.now.site in
    write_sized site c.args.self.now.maps ((c.args.self.now.standing).last).blocks ((c.args.self.now.standing).last).outputs c.args.i c.plan.result site.written c.requires (returns-clause-set_point g c)
