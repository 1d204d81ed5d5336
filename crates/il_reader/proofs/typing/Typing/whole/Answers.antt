use Rattle.std.proofs.Common.{◌∙◌, ap, pos, w64, rules, to_z, of_z}
use Rattle.std.proofs.lemmas.Int.{to_z-of_z}
use mir.Val.{SFits}
use Rattle.point_types.specs.Value.{low_of}
use Rattle.il_reader.specs.Declaration.{typing_of}
use Rattle.il_reader.proofs.typing.Typing.whole.Goals as goal

pub returns : goal.returns
returns c =
    let low : SFits w64 c.low.result = search rules in
    let high : SFits w64 c.high.result = search rules in
    c.new.ensures ∙ ap (λ z. typing_of c.args.kind z (to_z w64 (of_z w64 c.high.result)) (pos 0)) (to_z-of_z w64 _ low ∙ c.low.ensures) ∙ ap (λ z. typing_of c.args.kind (low_of c.args.kind) z (pos 0)) (to_z-of_z w64 _ high ∙ c.high.ensures)
