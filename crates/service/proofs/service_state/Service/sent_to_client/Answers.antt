use Rattle.std.proofs.Common.{rules, ◌≡◌, ◌≤◌, ◌<◌, Some, length, refl}
use Rattle.std.specs.Prelude.{slice_get}
use Rattle.std.proofs.lemmas.Option.{slice_get_past, slice_get_read}
use Rattle.service_parts.specs.Clients.{Sends}
use Rattle.service_parts.proofs.Heard.{done_at, nobody_at}
use Rattle.service.proofs.service_state.Service.sent_to_client.Goals as goal

pub returns-in-Some-clause-sends : goal.returns-in-Some-clause-sends
returns-in-Some-clause-sends c =
    let places = c.args.self.now.places.items in
    let within : c.args.place < length places = search rules in
    let at : slice_get places c.args.place ≡ Some c.in-Some.client.now = slice_get_read places _ c.args.place c.in-Some.client.now refl within c.in-Some.ensures.value in
    done_at (λ old new. Sends old c.args.n new) places places c.args.place c.in-Some.client.now c.sent.new.self refl at c.sent.ensures

pub returns-in_default-clause-sends : goal.returns-in_default-clause-sends
returns-in_default-clause-sends c =
    let places = c.args.self.now.places.items in
    let past : length places ≤ c.args.place = search rules in
    nobody_at (λ old new. Sends old c.args.n new) places places c.args.place refl (slice_get_past places c.args.place past)
