use Rattle.std.proofs.Common.{FitsSigned, pos, ◌-ℤ◌, ◌≤ℤ◌, arith, rules, subst, sym}
use Rattle.std.specs.Int.{w8, w64, w128}
use Rattle.std.proofs.lemmas.Int.{ints, to_z-of_z}
use Rattle.point_writer.specs.Nearest.{IsAbove}
use Rattle.point_writer.proofs.Fitted.{above_bound, deep_above, fits_long, fits_wide, long_v, none_above, tag_long}
use Rattle.point_writer.proofs.Ranges.{small}
use Rattle.point_writer.proofs.nearest.next_above.Goals as goal

pub returns-in_err-number : goal.returns-in_err-number
returns-in_err-number c =
    let a : FitsSigned w64 c.args.v = search rules in
    let b : FitsSigned w8 c.args.tag.now.exponent = search rules in
    let s : FitsSigned w8 c.in_ok-scale.scale = search rules in
    let long = tag_long c.args.tag.now in
    let from-low = long.low in
    let up = long.ascends in
    let to-high = long.high in
    let h : FitsSigned w64 c.args.tag.now.high = fits_long c.args.tag.now.high (omega (arith, ints, from-low, up)) to-high in
    let least : FitsSigned w128 c.in_ok-least.least = search rules in
    let most : FitsSigned w128 c.in_ok-least.most = search rules in
    let x : FitsSigned w128 c.from.result = search rules in
    let is = simp to_z-of_z at c.from.ensures in
    let q = small c.args.tag.now.point (c.in_ok-least.least, c.in_ok-least.most) c.in_ok-least.ensures in
    let above = c.requires in
    let turned-least : FitsSigned w128 (pos 0 -ℤ c.in_ok-least.least) = fits_wide (pos 0 -ℤ c.in_ok-least.least) (omega (arith, ints, q.1, q.2)) (omega (arith, ints, q.0)) in
    let turned-most : FitsSigned w128 (pos 0 -ℤ c.in_ok-least.most) = fits_wide (pos 0 -ℤ c.in_ok-least.most) (omega (arith, ints, q.2)) (omega (arith, ints, q.0, q.1)) in
    let turned-v : FitsSigned w128 (pos 0 -ℤ c.from.result) = fits_wide (pos 0 -ℤ c.from.result) (let u = long_v c.args.v a in omega (arith, ints, is, u.1)) (let u = long_v c.args.v a in omega (arith, ints, is, u.0)) in
    let bound = simp to_z-of_z at c.in_err-number.ensures in
    subst (IsAbove c.args.tag.now c.args.factor c.args.v) (sym c.from_residual-in_err-number.ensures)
    (deep_above c.args.tag.now c.args.factor c.in_ok-scale.scale c.in_ok-scale.ensures (c.in_ok-least.least, c.in_ok-least.most) c.in_ok-least.ensures c.args.v (pos 0 -ℤ c.from.result) (pos 0 -ℤ c.in_ok-least.most) (pos 0 -ℤ c.in_ok-least.least) (omega (arith, ints, is)) (omega (arith, ints)) (omega (arith, ints)) (omega (arith, ints, to-high)) bound)

pub returns-then-number-from : goal.returns-then-number-from
returns-then-number-from c =
    let a : FitsSigned w64 c.args.v = search rules in
    let b : FitsSigned w8 c.args.tag.now.exponent = search rules in
    let s : FitsSigned w8 c.in_ok-scale.scale = search rules in
    let long = tag_long c.args.tag.now in
    let from-low = long.low in
    let up = long.ascends in
    let to-high = long.high in
    let h : FitsSigned w64 c.args.tag.now.high = fits_long c.args.tag.now.high (omega (arith, ints, from-low, up)) to-high in
    let least : FitsSigned w128 c.in_ok-least.least = search rules in
    let most : FitsSigned w128 c.in_ok-least.most = search rules in
    let x : FitsSigned w128 c.from.result = search rules in
    let is = simp to_z-of_z at c.from.ensures in
    let q = small c.args.tag.now.point (c.in_ok-least.least, c.in_ok-least.most) c.in_ok-least.ensures in
    let above = c.requires in
    let turned-least : FitsSigned w128 (pos 0 -ℤ c.in_ok-least.least) = fits_wide (pos 0 -ℤ c.in_ok-least.least) (omega (arith, ints, q.1, q.2)) (omega (arith, ints, q.0)) in
    let turned-most : FitsSigned w128 (pos 0 -ℤ c.in_ok-least.most) = fits_wide (pos 0 -ℤ c.in_ok-least.most) (omega (arith, ints, q.2)) (omega (arith, ints, q.0, q.1)) in
    let turned-v : FitsSigned w128 (pos 0 -ℤ c.from.result) = fits_wide (pos 0 -ℤ c.from.result) (let u = long_v c.args.v a in omega (arith, ints, is, u.1)) (let u = long_v c.args.v a in omega (arith, ints, is, u.0)) in
    let n : FitsSigned w128 c.in_ok-number.number = search rules in
    let bound = simp to_z-of_z at c.in_ok-number.ensures in
    let high = simp to_z-of_z at c.from-2.ensures in
    let w : FitsSigned w128 c.from-2.result = search rules in
    let turned-high : FitsSigned w128 (pos 0 -ℤ c.from-2.result) = fits_wide (pos 0 -ℤ c.from-2.result) (omega (arith, ints, high, to-high)) (omega (arith, ints, high, from-low, up)) in
    let t = simp to_z-of_z at c.if-number-from.true in
    none_above c.args.tag.now c.args.factor c.in_ok-scale.scale c.in_ok-scale.ensures (c.in_ok-least.least, c.in_ok-least.most) c.in_ok-least.ensures c.args.v (pos 0 -ℤ c.from.result) (pos 0 -ℤ c.in_ok-least.most) (pos 0 -ℤ c.in_ok-least.least) c.in_ok-number.number (omega (arith, ints, is)) (omega (arith, ints)) (omega (arith, ints)) (omega (arith, ints, t, high)) bound

pub overflow_sub-result : goal.overflow_sub-result
overflow_sub-result c =
    let a : FitsSigned w64 c.args.v = search rules in
    let b : FitsSigned w8 c.args.tag.now.exponent = search rules in
    let s : FitsSigned w8 c.in_ok-scale.scale = search rules in
    let long = tag_long c.args.tag.now in
    let from-low = long.low in
    let up = long.ascends in
    let to-high = long.high in
    let h : FitsSigned w64 c.args.tag.now.high = fits_long c.args.tag.now.high (omega (arith, ints, from-low, up)) to-high in
    let least : FitsSigned w128 c.in_ok-least.least = search rules in
    let most : FitsSigned w128 c.in_ok-least.most = search rules in
    let x : FitsSigned w128 c.from.result = search rules in
    let is = simp to_z-of_z at c.from.ensures in
    let q = small c.args.tag.now.point (c.in_ok-least.least, c.in_ok-least.most) c.in_ok-least.ensures in
    let above = c.requires in
    let turned-least : FitsSigned w128 (pos 0 -ℤ c.in_ok-least.least) = fits_wide (pos 0 -ℤ c.in_ok-least.least) (omega (arith, ints, q.1, q.2)) (omega (arith, ints, q.0)) in
    let turned-most : FitsSigned w128 (pos 0 -ℤ c.in_ok-least.most) = fits_wide (pos 0 -ℤ c.in_ok-least.most) (omega (arith, ints, q.2)) (omega (arith, ints, q.0, q.1)) in
    let turned-v : FitsSigned w128 (pos 0 -ℤ c.from.result) = fits_wide (pos 0 -ℤ c.from.result) (let u = long_v c.args.v a in omega (arith, ints, is, u.1)) (let u = long_v c.args.v a in omega (arith, ints, is, u.0)) in
    let n : FitsSigned w128 c.in_ok-number.number = search rules in
    let bound = simp to_z-of_z at c.in_ok-number.ensures in
    let high = simp to_z-of_z at c.from-2.ensures in
    let w : FitsSigned w128 c.from-2.result = search rules in
    let turned-high : FitsSigned w128 (pos 0 -ℤ c.from-2.result) = fits_wide (pos 0 -ℤ c.from-2.result) (omega (arith, ints, high, to-high)) (omega (arith, ints, high, from-low, up)) in
    let t = simp to_z-of_z at c.if-number-from.false in
    let below = bound.below in
    let least-out : (pos 0 -ℤ c.in_ok-number.number) ≤ℤ c.args.tag.now.high = omega (arith, ints, t, high) in
    let most-out : c.args.v ≤ℤ (pos 0 -ℤ c.in_ok-number.number) = omega (arith, ints, below, is) in
    let out : FitsSigned w128 (pos 0 -ℤ c.in_ok-number.number) = fits_wide (pos 0 -ℤ c.in_ok-number.number) (omega (arith, ints, most-out, above, from-low)) (omega (arith, ints, least-out, to-high)) in
    let short : FitsSigned w64 (pos 0 -ℤ c.in_ok-number.number) = fits_long (pos 0 -ℤ c.in_ok-number.number) (omega (arith, ints, most-out, above, from-low)) (omega (arith, ints, least-out, to-high)) in
    rw (to_z-of_z w128 c.in_ok-number.number n) out

pub overflow_cast-result : goal.overflow_cast-result
overflow_cast-result c =
    let a : FitsSigned w64 c.args.v = search rules in
    let b : FitsSigned w8 c.args.tag.now.exponent = search rules in
    let s : FitsSigned w8 c.in_ok-scale.scale = search rules in
    let long = tag_long c.args.tag.now in
    let from-low = long.low in
    let up = long.ascends in
    let to-high = long.high in
    let h : FitsSigned w64 c.args.tag.now.high = fits_long c.args.tag.now.high (omega (arith, ints, from-low, up)) to-high in
    let least : FitsSigned w128 c.in_ok-least.least = search rules in
    let most : FitsSigned w128 c.in_ok-least.most = search rules in
    let x : FitsSigned w128 c.from.result = search rules in
    let is = simp to_z-of_z at c.from.ensures in
    let q = small c.args.tag.now.point (c.in_ok-least.least, c.in_ok-least.most) c.in_ok-least.ensures in
    let above = c.requires in
    let turned-least : FitsSigned w128 (pos 0 -ℤ c.in_ok-least.least) = fits_wide (pos 0 -ℤ c.in_ok-least.least) (omega (arith, ints, q.1, q.2)) (omega (arith, ints, q.0)) in
    let turned-most : FitsSigned w128 (pos 0 -ℤ c.in_ok-least.most) = fits_wide (pos 0 -ℤ c.in_ok-least.most) (omega (arith, ints, q.2)) (omega (arith, ints, q.0, q.1)) in
    let turned-v : FitsSigned w128 (pos 0 -ℤ c.from.result) = fits_wide (pos 0 -ℤ c.from.result) (let u = long_v c.args.v a in omega (arith, ints, is, u.1)) (let u = long_v c.args.v a in omega (arith, ints, is, u.0)) in
    let n : FitsSigned w128 c.in_ok-number.number = search rules in
    let bound = simp to_z-of_z at c.in_ok-number.ensures in
    let high = simp to_z-of_z at c.from-2.ensures in
    let w : FitsSigned w128 c.from-2.result = search rules in
    let turned-high : FitsSigned w128 (pos 0 -ℤ c.from-2.result) = fits_wide (pos 0 -ℤ c.from-2.result) (omega (arith, ints, high, to-high)) (omega (arith, ints, high, from-low, up)) in
    let t = simp to_z-of_z at c.if-number-from.false in
    let below = bound.below in
    let least-out : (pos 0 -ℤ c.in_ok-number.number) ≤ℤ c.args.tag.now.high = omega (arith, ints, t, high) in
    let most-out : c.args.v ≤ℤ (pos 0 -ℤ c.in_ok-number.number) = omega (arith, ints, below, is) in
    let out : FitsSigned w128 (pos 0 -ℤ c.in_ok-number.number) = fits_wide (pos 0 -ℤ c.in_ok-number.number) (omega (arith, ints, most-out, above, from-low)) (omega (arith, ints, least-out, to-high)) in
    let short : FitsSigned w64 (pos 0 -ℤ c.in_ok-number.number) = fits_long (pos 0 -ℤ c.in_ok-number.number) (omega (arith, ints, most-out, above, from-low)) (omega (arith, ints, least-out, to-high)) in
    rw (to_z-of_z w128 c.in_ok-number.number n, to_z-of_z w128 (pos 0 -ℤ c.in_ok-number.number) out) short

pub returns : goal.returns
returns c =
    let a : FitsSigned w64 c.args.v = search rules in
    let b : FitsSigned w8 c.args.tag.now.exponent = search rules in
    let s : FitsSigned w8 c.in_ok-scale.scale = search rules in
    let long = tag_long c.args.tag.now in
    let from-low = long.low in
    let up = long.ascends in
    let to-high = long.high in
    let h : FitsSigned w64 c.args.tag.now.high = fits_long c.args.tag.now.high (omega (arith, ints, from-low, up)) to-high in
    let least : FitsSigned w128 c.in_ok-least.least = search rules in
    let most : FitsSigned w128 c.in_ok-least.most = search rules in
    let x : FitsSigned w128 c.from.result = search rules in
    let is = simp to_z-of_z at c.from.ensures in
    let q = small c.args.tag.now.point (c.in_ok-least.least, c.in_ok-least.most) c.in_ok-least.ensures in
    let above = c.requires in
    let turned-least : FitsSigned w128 (pos 0 -ℤ c.in_ok-least.least) = fits_wide (pos 0 -ℤ c.in_ok-least.least) (omega (arith, ints, q.1, q.2)) (omega (arith, ints, q.0)) in
    let turned-most : FitsSigned w128 (pos 0 -ℤ c.in_ok-least.most) = fits_wide (pos 0 -ℤ c.in_ok-least.most) (omega (arith, ints, q.2)) (omega (arith, ints, q.0, q.1)) in
    let turned-v : FitsSigned w128 (pos 0 -ℤ c.from.result) = fits_wide (pos 0 -ℤ c.from.result) (let u = long_v c.args.v a in omega (arith, ints, is, u.1)) (let u = long_v c.args.v a in omega (arith, ints, is, u.0)) in
    let n : FitsSigned w128 c.in_ok-number.number = search rules in
    let bound = simp to_z-of_z at c.in_ok-number.ensures in
    let high = simp to_z-of_z at c.from-2.ensures in
    let w : FitsSigned w128 c.from-2.result = search rules in
    let turned-high : FitsSigned w128 (pos 0 -ℤ c.from-2.result) = fits_wide (pos 0 -ℤ c.from-2.result) (omega (arith, ints, high, to-high)) (omega (arith, ints, high, from-low, up)) in
    let t = simp to_z-of_z at c.if-number-from.false in
    let below = bound.below in
    let least-out : (pos 0 -ℤ c.in_ok-number.number) ≤ℤ c.args.tag.now.high = omega (arith, ints, t, high) in
    let most-out : c.args.v ≤ℤ (pos 0 -ℤ c.in_ok-number.number) = omega (arith, ints, below, is) in
    let out : FitsSigned w128 (pos 0 -ℤ c.in_ok-number.number) = fits_wide (pos 0 -ℤ c.in_ok-number.number) (omega (arith, ints, most-out, above, from-low)) (omega (arith, ints, least-out, to-high)) in
    let short : FitsSigned w64 (pos 0 -ℤ c.in_ok-number.number) = fits_long (pos 0 -ℤ c.in_ok-number.number) (omega (arith, ints, most-out, above, from-low)) (omega (arith, ints, least-out, to-high)) in
    rw (to_z-of_z w128 c.in_ok-number.number n, to_z-of_z w128 (pos 0 -ℤ c.in_ok-number.number) out, to_z-of_z w64 (pos 0 -ℤ c.in_ok-number.number) short)
    (above_bound c.args.tag.now c.args.factor c.in_ok-scale.scale c.in_ok-scale.ensures (c.in_ok-least.least, c.in_ok-least.most) c.in_ok-least.ensures c.args.v (pos 0 -ℤ c.from.result) (pos 0 -ℤ c.in_ok-least.most) (pos 0 -ℤ c.in_ok-least.least) c.in_ok-number.number (pos 0 -ℤ c.in_ok-number.number) (omega (arith, ints, is)) (omega (arith, ints)) (omega (arith, ints)) (omega (arith, ints)) above (omega (arith, ints, least-out)) bound)
