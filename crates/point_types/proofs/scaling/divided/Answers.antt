use Rattle.std.proofs.Common.{arith, FitsSigned, rules}
use Rattle.std.specs.Int.{w128}
use Rattle.std.proofs.lemmas.Int.{ints, to_z-of_z}
use Rattle.point_types.proofs.Powers.{euclid, euclid_between}
use Rattle.point_types.proofs.scaling.divided.Goals as goal

pub returns-then-rem_euclid-eq0 : goal.returns-then-rem_euclid-eq0
returns-then-rem_euclid-eq0 c =
    let f = c.ranges.number in
    let g = c.ranges.ratio in
    let d = simp to_z-of_z at c.div_euclid-n.ensures in
    let r = simp to_z-of_z at c.rem_euclid.ensures.value in
    let e = euclid c.args.number c.args.ratio c.requires in
    let fits : FitsSigned w128 c.div_euclid-n.result = search rules in
    rw (to_z-of_z w128 c.div_euclid-n.result fits, d) (omega (arith, ints))

pub returns-else-rem_euclid-eq0 : goal.returns-else-rem_euclid-eq0
returns-else-rem_euclid-eq0 c =
    let f = c.ranges.number in
    let g = c.ranges.ratio in
    let d = simp to_z-of_z at c.div_euclid-n.ensures in
    let r = simp to_z-of_z at c.rem_euclid.ensures.value in
    let e = euclid c.args.number c.args.ratio c.requires in
    let fits : FitsSigned w128 c.div_euclid-n.result = search rules in
    rw (to_z-of_z w128 c.div_euclid-n.result fits, d)
    (euclid_between c.args.number c.args.ratio _ _ c.requires e (rw (← r) (omega (arith, ints))) (rw (← r) (omega (arith, ints))))
