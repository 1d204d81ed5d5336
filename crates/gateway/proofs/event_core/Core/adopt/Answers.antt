use Rattle.std.proofs.Common.{◌≡◌, ◌∙◌, length, subst, ap}
use Rattle.scan_vm.specs.Machine.{Running}
use Rattle.verifier.specs.Verified.{Acceptance, HasLinks}
use Rattle.gateway.proofs.Parts.{links_length}
use Rattle.gateway.proofs.event_core.Core.adopt.Goals as goal

pub invariant_of-self : goal.invariant_of-self
invariant_of-self g c =
    let site = c.self.inside.site in
    let so_far = c.self.invariant in
    let verdict = c.machine.invariant.verified in
    let linked = subst (λ (r : Running). length r.accepted.links ≡ length r.accepted.image.tags) c.machine.view_is (links_length verdict.site 0 _ _ verdict.linked) in
    record {
      matched = subst (λ (a : Acceptance). HasLinks site.tags a.links) c.verified.ensures c.in-Ok.ensures.matched;
      linked = linked;
      mapped = so_far.mapped;
      own = so_far.own;
      known = so_far.known;
      served = so_far.served;
      sized = so_far.sized;
      roomy = so_far.roomy;
      fed = c.in-Ok.ensures.sized ∙ ap (λ (a : Acceptance). length a.links) c.verified.ensures;
    }
