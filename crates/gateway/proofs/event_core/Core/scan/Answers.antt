use Rattle.std.proofs.Common.{◌≡◌, ◌∙◌, length, sym, ap, subst, arith}
use Rattle.std.specs.Vec.{with_items}
use Rattle.std.proofs.lemmas.List.{with_items_is}
use Rattle.verifier.specs.Verified.{Acceptance, HasLinks}
use Rattle.gateway.proofs.Parts.{served_again}
use Rattle.gateway.proofs.event_core.Core.scan.Goals as goal

pub invariant_of-self : goal.invariant_of-self
invariant_of-self g c =
    let core = c.self.inside in
    let so_far = c.self.invariant in
    let same = sym c.scan.ensures.accepted in
    let en : (with_items core.inputs c.scan.new.inputs).items ≡ c.scan.new.inputs = with_items_is core.inputs c.scan.new.inputs (omega (arith, c.scan.ensures.inputs, c.deref_mut.ensures.len)) in
    let ei : (with_items core.image c.serve.new.image).items ≡ c.serve.new.image = with_items_is core.image c.serve.new.image (omega (arith, c.serve.ensures.len, c.deref_mut-2.ensures.len)) in
    record {
      matched = subst (λ (a : Acceptance). HasLinks core.site.tags a.links) same so_far.matched;
      linked = subst (λ (a : Acceptance). length a.links ≡ length a.image.tags) same so_far.linked;
      mapped = so_far.mapped;
      own = so_far.own;
      known = c.scan.ensures.known;
      served = served_again core.site c.scan.new.known.outputs.items c.scan.new.known.readings.items c.scan.new.known.sets.items core.points c.as_slice.result.now c.serve.new.image _ c.as_slice.ensures so_far.own ei c.serve.ensures.served;
      sized = ap length ei ∙ c.serve.ensures.len ∙ ap length c.deref_mut-2.ensures.value ∙ so_far.sized;
      roomy = so_far.roomy;
      fed = ap length en ∙ c.scan.ensures.inputs ∙ ap length c.deref_mut.ensures.value ∙ so_far.fed ∙ ap (λ (a : Acceptance). length a.links) same;
    }
