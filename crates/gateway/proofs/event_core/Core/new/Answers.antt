use Rattle.std.proofs.Common.{◌≡◌, length, subst}
use Rattle.scan_vm.specs.Machine.{Running}
use Rattle.verifier.specs.Verified.{Acceptance, HasLinks}
use Rattle.gateway.specs.event_core.Core.{IsReady}
use Rattle.gateway.proofs.Parts.{links_length, ready_core}
use Rattle.gateway.proofs.event_core.Core.new.Goals as goal

pub invariant_of-result : goal.invariant_of-result
invariant_of-result g c =
    let site = c.args.site in
    let opening = c.in-Ok.opening in
    let verdict = c.machine.invariant.verified in
    let linked = subst (λ (r : Running). length r.accepted.links ≡ length r.accepted.image.tags) c.machine.view_is (links_length verdict.site 0 _ _ verdict.linked) in
    let matched = subst (λ (a : Acceptance). HasLinks site.tags a.links) c.verified.ensures c.in-Ok.ensures.matched in
    let ready = subst (λ (a : Acceptance). IsReady site a.links opening) c.verified.ensures c.in-Ok.ensures.ready in
    ready_core site c.args.maps.items c.args.machine opening matched linked c.requires ready
