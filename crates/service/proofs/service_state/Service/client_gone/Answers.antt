use Rattle.std.proofs.Common.{rules, ◌≡◌, ◌≤◌, ◌<◌, false, Some, length, refl}
use Rattle.std.specs.Prelude.{slice_get}
use Rattle.std.proofs.lemmas.Option.{slice_get_past, slice_get_read}
use Rattle.service_parts.specs.declared.client_place.ClientPlace.{ClientPlace}
use Rattle.service_parts.proofs.Heard.{done_at, nobody_at}
use Rattle.service.proofs.service_state.Service.client_gone.Goals as goal

pub returns-in-Some-clause-gone : goal.returns-in-Some-clause-gone
returns-in-Some-clause-gone c =
    let places = c.args.self.now.places.items in
    let within : c.args.place < length places = search rules in
    let at : slice_get places c.args.place ≡ Some c.in-Some.client.now = slice_get_read places _ c.args.place c.in-Some.client.now refl within c.in-Some.ensures.value in
    done_at (λ (old new : ClientPlace). new.is_taken ≡ false) places places c.args.place c.in-Some.client.now c.leave.new.self refl at c.leave.ensures

pub returns-in_default-clause-gone : goal.returns-in_default-clause-gone
returns-in_default-clause-gone c =
    let places = c.args.self.now.places.items in
    let past : length places ≤ c.args.place = search rules in
    nobody_at (λ (old new : ClientPlace). new.is_taken ≡ false) places places c.args.place refl (slice_get_past places c.args.place past)
