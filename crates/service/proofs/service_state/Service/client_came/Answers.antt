use Rattle.std.proofs.Common.{rules, ◌≡◌, ◌<◌, Some, length, refl}
use Rattle.std.specs.Prelude.{slice_get}
use Rattle.std.proofs.lemmas.Option.{slice_get_read}
use Rattle.service_parts.proofs.Heard.{others_stay, stands_there}
use Rattle.service.proofs.service_state.Service.client_came.Goals as goal

pub returns-clause-open : goal.returns-clause-open
returns-clause-open c =
    let places = c.args.self.now.places.items in
    let within : c.in_ok-place.place < length places = search rules in
    let at : slice_get places c.in_ok-place.place ≡ Some c.index_mut.result.now = slice_get_read places _ c.in_ok-place.place c.index_mut.result.now refl within c.index_mut.ensures.value in
    (c.open.new.self, stands_there places c.in_ok-place.place c.index_mut.result.now c.open.new.self at, c.open.ensures)

pub returns-clause-others : goal.returns-clause-others
returns-clause-others c = others_stay c.args.self.now.places.items c.args.self.now.places.items c.in_ok-place.place c.open.new.self refl
