use Rattle.std.proofs.Common.{rules, ◌≡◌, ◌≤◌, ◌<◌, length}
use Rattle.service_parts.specs.Clients.{ready_of}
use Rattle.service_parts.specs.declared.client_place.ClientPlace.{ClientPlace}
use Rattle.service_parts.proofs.Placed.{stands, stands_none}
use Rattle.service.proofs.service_state.Service.to_client.Goals as goal

pub returns-in-Some : goal.returns-in-Some
returns-in-Some c =
    let same : c.args.self.now.places.items ≡ c.deref.result.now = search rules in
    let within : c.args.place < length c.deref.result.now = search rules in
    stands (λ (x : ClientPlace). c.out.result.now ≡ ready_of x) _ _ c.deref.result.now c.in-Some.client.now same within c.in-Some.ensures.lookup.1 c.out.ensures

pub returns-in-None : goal.returns-in-None
returns-in-None c =
    let past : length c.args.self.now.places.items ≤ c.args.place = search rules in
    stands_none _ _ _ past
