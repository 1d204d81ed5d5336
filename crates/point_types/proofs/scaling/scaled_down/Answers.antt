use Rattle.std.proofs.Common.{FitsSigned, rules}
use Rattle.std.specs.Int.{w8, w128}
use Rattle.std.proofs.lemmas.Int.{to_z-of_z}
use Rattle.point_types.specs.Reading.{factor_of, IsScaledDown}
use Rattle.point_types.proofs.Powers.{down_whole, down_between}
use Rattle.point_types.proofs.Readings.{whole_reads, beyond_reads_down}
use Rattle.point_types.proofs.scaling.scaled_down.Goals as goal

pub returns-in-Whole : goal.returns-in-Whole
returns-in-Whole c =
    let f = c.ranges.raw in
    let g = c.ranges.exponent in
    let l = c.ranges.low in
    let m = c.ranges.high in
    let h : FitsSigned w8 c.in-Some.factor = search rules in
    let k : FitsSigned w128 c.in-Whole.n = search rules in
    let whole = simp to_z-of_z at (c.in-Whole.ensures {u = tt}) in
    let ranged = simp to_z-of_z at c.in_range.ensures in
    whole_reads IsScaledDown c.args.raw c.in-Some.factor c.args.exponent c.args.low c.args.high c.in-Whole.n (factor_of c.args.sf) c.in_range.result (c.in-Some.ensures {u = tt}) (down_whole _ _ _ _ whole) ranged

pub returns-in-Between : goal.returns-in-Between
returns-in-Between c =
    let f = c.ranges.raw in
    let g = c.ranges.exponent in
    let l = c.ranges.low in
    let m = c.ranges.high in
    let h : FitsSigned w8 c.in-Some.factor = search rules in
    let k : FitsSigned w128 c.in-Between.n = search rules in
    let above = simp to_z-of_z at (c.in-Between.ensures {u = tt}) in
    let ranged = simp to_z-of_z at c.in_range-in-Between.ensures in
    whole_reads IsScaledDown c.args.raw c.in-Some.factor c.args.exponent c.args.low c.args.high c.in-Between.n (factor_of c.args.sf) c.in_range-in-Between.result (c.in-Some.ensures {u = tt}) (down_between _ _ _ _ above) ranged

pub returns-in-Beyond : goal.returns-in-Beyond
returns-in-Beyond c =
    let f = c.ranges.raw in
    let g = c.ranges.exponent in
    let h : FitsSigned w8 c.in-Some.factor = search rules in
    let beyond = simp to_z-of_z at (c.in-Beyond.ensures {u = tt}) in
    beyond_reads_down c.args.raw c.in-Some.factor c.args.exponent c.args.low c.args.high beyond.0 (factor_of c.args.sf) (c.in-Some.ensures {u = tt}) c.ranges.low c.ranges.high beyond.1 beyond.2
