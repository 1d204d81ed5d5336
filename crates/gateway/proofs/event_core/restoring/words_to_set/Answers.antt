use Rattle.std.proofs.Common.{◌≡◌, rules, FitsSigned, Some, sym, subst, ap, ◌∙◌, refl}
use Rattle.std.specs.Int.{w64}
use Rattle.std.proofs.lemmas.Int.{to_z-of_z}
use Rattle.std.specs.Prelude.{slice_get}
use Rattle.std.proofs.lemmas.Option.{slice_get_read}
use Rattle.gateway.specs.event_core.SiteRun.{setting_of}
use Rattle.gateway.proofs.SetAgain.{set_by}
use Rattle.gateway.proofs.event_core.restoring.words_to_set.Goals as goal

pub returns-in-Some : goal.returns-in-Some
returns-in-Some c =
    let f : FitsSigned w64 c.args.number = search rules in
    let own : setting_of c.args.tags.now c.args.point ≡ Some c.args.tag = sym c.setting_of.ensures.value ∙ c.in-Some.is ∙ ap Some c.if-i-tag.true in
    let here : slice_get c.args.tags.now c.in-Some.i ≡ Some c.index-tags-i.result = slice_get_read c.args.tags.now _ c.in-Some.i c.index-tags-i.result refl c.in-Some.ensures.inside c.index-tags-i.is in
    set_by c.args.tags.now c.args.tag c.args.number c.args.point c.index-tags-i.result c.words_to_read.result own (subst (λ i. slice_get c.args.tags.now i ≡ Some c.index-tags-i.result) c.if-i-tag.true here) (simp to_z-of_z at c.words_to_read.ensures)
