use Rattle.std.proofs.Common.{rules, ◌≡◌, ◌<◌, Some, length, refl, slice_get}
use Rattle.std.proofs.lemmas.Option.{slice_get_read, slice_get_within}
use Rattle.service.proofs.Waking.{one_further}
use Rattle.service.proofs.wakes.wakes_for_clients.Goals as goal

pub loop-place-preserved : goal.loop-place-preserved
loop-place-preserved c =
    let places = c.args.places.now in
    let within : c.loop-place.place < length places = search rules in
    let there : slice_get places c.loop-place.place ≡ Some c.index-places-place.result = slice_get_read _ _ c.loop-place.place c.index-places-place.result refl within c.index-places-place.is in (
      search rules,
      search rules,
      one_further c.args.at places c.args.idle c.loop-place.at c.wakes_for-at.result c.loop-place.place c.index-places-place.result c.loop-place.invariant.2 there c.wakes_for-at.ensures.one,
    )

pub returns-clause-clients : goal.returns-clause-clients
returns-clause-clients c place client at =
    let within = slice_get_within c.args.places.now place client at in
    c.loop-place.invariant.1 place client (search (rules, within)) at
