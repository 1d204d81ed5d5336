use Rattle.std.proofs.Common.{FitsSigned, rules, refl, sym, ap, ◌∙◌, Some, ◌≡◌}
use Rattle.std.specs.Prelude.{slice_get}
use Rattle.std.specs.Int.{w64}
use Rattle.std.proofs.lemmas.Int.{to_z-of_z}
use Rattle.std.proofs.lemmas.Option.{slice_get-get_or}
use Rattle.gateway.proofs.Settled.{still_settings, reads_in_range}
use Rattle.gateway.proofs.event_core.setting.set_point.Goals as goal

pub returns-clause-set : goal.returns-clause-set
returns-clause-set c =
    let f : FitsSigned w64 c.in-Some-number_in.n = search rules in
    let tag : slice_get c.args.tags.now c.in-Some.i ≡ Some c.index-tags-i.result = slice_get-get_or c.args.tags.now c.in-Some.i c.index-tags-i.result c.in-Some.ensures.inside ∙ ap Some (sym c.index-tags-i.is) in
    rw (to_z-of_z w64 c.in-Some-number_in.n f)
    (c.in-Some.i, c.index-tags-i.result, c.in-Some-number_in.n, sym c.setting_of.ensures.value ∙ c.in-Some.is, tag, c.in-Some-number_in.ensures, refl)

pub returns-clause-ranged : goal.returns-clause-ranged
returns-clause-ranged c =
    let f : FitsSigned w64 c.in-Some-number_in.n = search rules in
    let tag : slice_get c.args.tags.now c.in-Some.i ≡ Some c.index-tags-i.result = slice_get-get_or c.args.tags.now c.in-Some.i c.index-tags-i.result c.in-Some.ensures.inside ∙ ap Some (sym c.index-tags-i.is) in
    rw (to_z-of_z w64 c.in-Some-number_in.n f)
    (still_settings c.args.tags.now c.args.sets.now c.in-Some.i c.index-tags-i.result c.in-Some-number_in.n c.requires.ranged tag
    (reads_in_range c.args.point c.index-tags-i.result c.args.words.now c.in-Some-number_in.n c.in-Some-number_in.ensures))
