use Rattle.std.proofs.Common.{refl, ◌≡◌, ◌+◌, ap, sym, ◌∙◌, slice_get, drop, Some, None}
use Rattle.std.proofs.lemmas.Option.{slice_get_read}
use Rattle.point_types.specs.Name.{name_of}
use Rattle.commands.specs.Given.{reading_given}
use Rattle.commands.proofs.GivenLemmas.{entry_steps, behind_sign}
use Rattle.commands.proofs.given.entry_of.Goals as goal

pub returns-in-Some-clause-entry : goal.returns-in-Some-clause-entry
returns-in-Some-clause-entry c =
    let here : slice_get c.args.tags.now c.in_ok-place.place ≡ Some c.index-tags-place.result = slice_get_read _ _ c.in_ok-place.place c.index-tags-place.result refl c.in_ok-place.ensures.within c.index-tags-place.is in
    let value : c.split_at-2.result.1.now ≡ drop (c.in_ok-sign.sign + 1) c.args.line.now = c.split_at-2.ensures.back ∙ ap (drop 1) c.split_at.ensures.back ∙ behind_sign c.in_ok-sign.sign c.args.line.now in
    sym (entry_steps c.args.tags.now c.args.line.now c.split_at-2.result.1.now c.in_ok-sign.sign c.in_ok-place.place c.in_ok-name.name c.index-tags-place.result (Some c.in-Some.reading) (sym c.in_ok-sign.ensures.place) (ap name_of (sym c.split_at.ensures.front) ∙ sym c.in_ok-name.ensures) (sym c.in_ok-place.ensures.place) here value (ap (λ t. reading_given t.kind c.split_at-2.result.1.now) c.index-tags-place.is ∙ sym c.in-Some.ensures))

pub returns-in-None-clause-entry : goal.returns-in-None-clause-entry
returns-in-None-clause-entry c =
    let here : slice_get c.args.tags.now c.in_ok-place.place ≡ Some c.index-tags-place.result = slice_get_read _ _ c.in_ok-place.place c.index-tags-place.result refl c.in_ok-place.ensures.within c.index-tags-place.is in
    let value : c.split_at-2.result.1.now ≡ drop (c.in_ok-sign.sign + 1) c.args.line.now = c.split_at-2.ensures.back ∙ ap (drop 1) c.split_at.ensures.back ∙ behind_sign c.in_ok-sign.sign c.args.line.now in
    sym (entry_steps c.args.tags.now c.args.line.now c.split_at-2.result.1.now c.in_ok-sign.sign c.in_ok-place.place c.in_ok-name.name c.index-tags-place.result None (sym c.in_ok-sign.ensures.place) (ap name_of (sym c.split_at.ensures.front) ∙ sym c.in_ok-name.ensures) (sym c.in_ok-place.ensures.place) here value (ap (λ t. reading_given t.kind c.split_at-2.result.1.now) c.index-tags-place.is ∙ sym c.in-None.ensures))
