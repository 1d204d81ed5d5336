use Rattle.std.proofs.Common.{FitsSigned, rules}
use Rattle.std.specs.Int.{w8, w64}
use Rattle.std.proofs.lemmas.Int.{to_z-of_z}
use Rattle.gateway.proofs.Spelled.{not_both}
use Rattle.gateway.proofs.served.words.encoded.Goals as goal

pub returns-in-Err : goal.returns-in-Err
returns-in-Err c =
    let f : FitsSigned w64 c.args.amount.number = search rules in
    let e : FitsSigned w8 c.args.amount.exponent = search rules in
    not_both c.args.kind c.args.amount.number c.args.amount.exponent c.args.amount.factor c.in-Err.field-0 (simp to_z-of_z at c.in-Err.ensures)
