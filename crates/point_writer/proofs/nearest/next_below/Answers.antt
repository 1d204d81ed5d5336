use Rattle.std.proofs.Common.{FitsSigned, ◌≤ℤ◌, arith, rules, subst, sym}
use Rattle.std.specs.Int.{w8, w64, w128}
use Rattle.std.proofs.lemmas.Int.{ints, to_z-of_z}
use Rattle.point_writer.specs.Nearest.{IsBelow}
use Rattle.point_writer.proofs.Fitted.{below_bound, deep_below, none_below, fits_long, tag_long, usable}
use Rattle.point_writer.proofs.nearest.next_below.Goals as goal

pub bound_below-requires-clause-factor : goal.bound_below-requires-clause-factor
bound_below-requires-clause-factor c =
    let s : FitsSigned w8 c.in_ok-scale.scale = search rules in
    rw (to_z-of_z w8 c.in_ok-scale.scale s) (usable c.args.factor c.in_ok-scale.scale c.in_ok-scale.ensures)

pub returns-in_err-number : goal.returns-in_err-number
returns-in_err-number c =
    let a : FitsSigned w64 c.args.v = search rules in
    let b : FitsSigned w8 c.args.tag.now.exponent = search rules in
    let s : FitsSigned w8 c.in_ok-scale.scale = search rules in
    let long = tag_long c.args.tag.now in
    let from-low = long.low in
    let up = long.ascends in
    let to-high = long.high in
    let l : FitsSigned w64 c.args.tag.now.low = fits_long c.args.tag.now.low from-low (omega (arith, ints, up, to-high)) in
    let h : FitsSigned w64 c.args.tag.now.high = fits_long c.args.tag.now.high (omega (arith, ints, from-low, up)) to-high in
    let least : FitsSigned w128 c.in_ok-least.least = search rules in
    let most : FitsSigned w128 c.in_ok-least.most = search rules in
    let x : FitsSigned w128 c.from.result = search rules in
    let is = simp to_z-of_z at c.from.ensures in
    let bound = simp to_z-of_z at c.in_err-number.ensures in
    subst (IsBelow c.args.tag.now c.args.factor c.args.v) (sym c.from_residual-in_err-number.ensures)
    (deep_below c.args.tag.now c.args.factor c.in_ok-scale.scale c.in_ok-scale.ensures (c.in_ok-least.least, c.in_ok-least.most) c.in_ok-least.ensures c.args.v c.from.result is (omega (arith, ints, from-low)) bound)

pub returns-then-number-from : goal.returns-then-number-from
returns-then-number-from c =
    let a : FitsSigned w64 c.args.v = search rules in
    let b : FitsSigned w8 c.args.tag.now.exponent = search rules in
    let s : FitsSigned w8 c.in_ok-scale.scale = search rules in
    let long = tag_long c.args.tag.now in
    let from-low = long.low in
    let up = long.ascends in
    let to-high = long.high in
    let l : FitsSigned w64 c.args.tag.now.low = fits_long c.args.tag.now.low from-low (omega (arith, ints, up, to-high)) in
    let h : FitsSigned w64 c.args.tag.now.high = fits_long c.args.tag.now.high (omega (arith, ints, from-low, up)) to-high in
    let least : FitsSigned w128 c.in_ok-least.least = search rules in
    let most : FitsSigned w128 c.in_ok-least.most = search rules in
    let x : FitsSigned w128 c.from.result = search rules in
    let is = simp to_z-of_z at c.from.ensures in
    let n : FitsSigned w128 c.in_ok-number.number = search rules in
    let bound = simp to_z-of_z at c.in_ok-number.ensures in
    let low = simp to_z-of_z at c.from-2.ensures in
    let t = simp to_z-of_z at c.if-number-from.true in
    none_below c.args.tag.now c.args.factor c.in_ok-scale.scale c.in_ok-scale.ensures (c.in_ok-least.least, c.in_ok-least.most) c.in_ok-least.ensures c.args.v c.from.result c.in_ok-number.number is (omega (arith, ints, t, low)) bound

pub returns : goal.returns
returns c =
    let a : FitsSigned w64 c.args.v = search rules in
    let b : FitsSigned w8 c.args.tag.now.exponent = search rules in
    let s : FitsSigned w8 c.in_ok-scale.scale = search rules in
    let long = tag_long c.args.tag.now in
    let from-low = long.low in
    let up = long.ascends in
    let to-high = long.high in
    let l : FitsSigned w64 c.args.tag.now.low = fits_long c.args.tag.now.low from-low (omega (arith, ints, up, to-high)) in
    let h : FitsSigned w64 c.args.tag.now.high = fits_long c.args.tag.now.high (omega (arith, ints, from-low, up)) to-high in
    let least : FitsSigned w128 c.in_ok-least.least = search rules in
    let most : FitsSigned w128 c.in_ok-least.most = search rules in
    let x : FitsSigned w128 c.from.result = search rules in
    let is = simp to_z-of_z at c.from.ensures in
    let n : FitsSigned w128 c.in_ok-number.number = search rules in
    let bound = simp to_z-of_z at c.in_ok-number.ensures in
    let low = simp to_z-of_z at c.from-2.ensures in
    let t = simp to_z-of_z at c.if-number-from.false in
    let from : c.args.tag.now.low ≤ℤ c.in_ok-number.number = omega (arith, ints, t, low) in
    let below = bound.below in
    let f : FitsSigned w64 c.in_ok-number.number = fits_long c.in_ok-number.number (omega (arith, ints, from-low, from)) (omega (arith, ints, below, is, c.requires, to-high)) in
    rw (to_z-of_z w128 c.in_ok-number.number n, to_z-of_z w64 c.in_ok-number.number f)
    (below_bound c.args.tag.now c.args.factor c.in_ok-scale.scale c.in_ok-scale.ensures (c.in_ok-least.least, c.in_ok-least.most) c.in_ok-least.ensures c.args.v c.from.result c.in_ok-number.number is c.requires from bound)
