use Rattle.std.proofs.Common.{◌≡◌, ◌^◌, ◌∙◌, sym, subst, true, pos, w64}
use Rattle.std.proofs.lemmas.Int.{to_z-of_z}
use Rattle.std.specs.Int.{int_rem_euclid}
use Rattle.inverter_sim.specs.File.{is_spelled}
use Rattle.inverter_sim.proofs.Images.{spelled_as}
use Rattle.inverter_sim.proofs.reader.values.wrapped.Goals as goal

pub returns-then-is_spelled : goal.returns-then-is_spelled
returns-then-is_spelled c =
    let raw = to_z-of_z w64 _ c.ranges.raw in
    let good = subst (λ z. is_spelled c.args.signed (pos (65536 ^ c.args.size)) z ≡ true) raw (sym c.is_spelled.ensures ∙ c.if-is_spelled.true) in
    let number = subst (λ z. int_rem_euclid z (pos (65536 ^ c.args.size)) ≡ pos c.remainder.result) raw c.remainder.ensures in
    spelled_as c.args.signed c.args.size c.args.raw c.remainder.result good number
