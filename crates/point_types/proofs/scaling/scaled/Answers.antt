use Rattle.std.proofs.Common.{FitsSigned, rules}
use Rattle.std.specs.Int.{w8}
use Rattle.std.proofs.lemmas.Int.{to_z-of_z}
use Rattle.point_types.specs.Reading.{factor_of}
use Rattle.point_types.proofs.Readings.{between_reads}
use Rattle.point_types.proofs.scaling.scaled.Goals as goal

pub returns-in-Between : goal.returns-in-Between
returns-in-Between c =
    let f = c.ranges.raw in
    let g = c.ranges.exponent in
    let h : FitsSigned w8 c.in-Some.factor = search rules in
    let above = simp to_z-of_z at (c.in-Between.ensures {u = tt}) in
    between_reads c.args.raw c.in-Some.factor c.args.exponent c.args.low c.args.high c.in-Between.field-0 (factor_of c.args.sf) (c.in-Some.ensures {u = tt}) above
