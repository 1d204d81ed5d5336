use Rattle.std.proofs.Common.{Some, length, option_map, refl, sym, ap, ◌∙◌, string_bytes}
use Rattle.std.proofs.lemmas.Option.{slice_get-map, slice_get_read}
use Rattle.std.proofs.lemmas.Slice.Eq.{bytes_eq-Decides}
use Rattle.history.proofs.quantities.place_of.Goals as goal

pub returns-then-eq : goal.returns-then-eq
returns-then-eq c =
    let names = c.args.names.now in
    let there = slice_get_read names (length names) c.loop-place.place c.index-names-place.result refl c.loop-place-test.true c.index-names-place.is in
    let same = sym c.as_str.ensures.value ∙ (bytes_eq-Decides _ _).0 (sym c.eq.ensures ∙ c.if-eq.true) in
    slice_get-map string_bytes names c.loop-place.place ∙ ap (option_map string_bytes) there ∙ ap Some same
