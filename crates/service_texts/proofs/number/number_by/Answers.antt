use Rattle.std.proofs.Common.{rules, FitsSigned, w8}
use Rattle.std.proofs.lemmas.Int.{to_z-of_z}
use Rattle.std.proofs.lemmas.Option.{IfSome_then}
use mir.Syntax.{w128}
use Rattle.service_texts.proofs.Read.{number_read}
use Rattle.service_texts.proofs.number.number_by.Goals as goal

pub returns : goal.returns
returns c =
    let raw_fits : FitsSigned w128 c.in_ok-raw.raw = search rules in
    let exponent_fits : FitsSigned w8 c.args.tag.now.exponent = search rules in
    IfSome_then c.number_in.result c.number_in.ensures (λ n e. number_read c.args.tag.now c.args.factor c.args.words.now c.in_ok-raw.raw _ _ _ _ n c.scaled.result c.in_ok-raw.ensures
    (to_z-of_z w128 c.in_ok-raw.raw raw_fits) (to_z-of_z w8 c.args.tag.now.exponent exponent_fits) c.scaled.ensures e)
