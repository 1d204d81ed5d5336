use Rattle.std.proofs.Common.{◌∙◌, ap, w64, rules, to_z, of_z}
use Rattle.std.proofs.lemmas.Int.{to_z-of_z}
use mir.Val.{SFits}
use Rattle.il_reader.specs.Declaration.{typing_of}
use Rattle.il_reader.proofs.typing.Typing.begun.Goals as goal

pub returns : goal.returns
returns c =
    let high : SFits w64 c.high.result = search rules in
    c.new.ensures ∙ ap (λ z. typing_of c.args.kind z (to_z w64 (of_z w64 c.high.result)) z) (to_z-of_z w64 _ c.ranges.low) ∙ ap (λ z. typing_of c.args.kind c.args.low z c.args.low) (to_z-of_z w64 _ high ∙ c.high.ensures)
