use Rattle.std.proofs.Common.{◌∙◌, ap, sym, w64, rules}
use Rattle.std.proofs.lemmas.Int.{to_z-of_z}
use mir.Val.{SFits}
use Rattle.il_reader.specs.Declaration.{begun, made}
use Rattle.il_reader.proofs.declaring.low_end.Goals as goal

pub returns : goal.returns
returns c =
    let value : SFits w64 c.in_ok-value.value = search rules in
    c.begun.ensures ∙ ap (begun c.args.kind) (to_z-of_z w64 _ value) ∙ ap (made (begun c.args.kind)) (sym c.in_ok-value.was ∙ c.literal_value.ensures)
