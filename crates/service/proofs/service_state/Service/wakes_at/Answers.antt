use Rattle.std.proofs.Common.{rules, ◌≡◌, subst}
use Rattle.service.proofs.Waking.{IsOneOf, one_of_all}
use Rattle.service.proofs.service_state.Service.wakes_at.Goals as goal

pub returns-clause-one : goal.returns-clause-one
returns-clause-one c =
    let own = c.args.self.now in
    let same : c.deref.result.now ≡ own.places.items = search rules in
    one_of_all own.side.next_scan c.wakes_at-at.result c.wakes_for_clients.result own.side.limits.idle own.lines.lines.items own.places.items c.wakes_at-at.ensures.one
    (subst (λ places. IsOneOf c.wakes_at-at.result places own.side.limits.idle c.wakes_for_clients.result) same c.wakes_for_clients.ensures.one)
