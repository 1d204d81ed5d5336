use Rattle.std.proofs.Common.{◌≡◌, FitsSigned, None, arith, rules, subst, sym}
use Rattle.std.specs.Int.{w8, w128}
use Rattle.std.proofs.lemmas.Int.{ints, to_z-of_z}
use Rattle.point_types.proofs.Powers.{down_between, down_whole}
use Rattle.point_writer.specs.Nearest.{IsBoundFor}
use Rattle.point_writer.proofs.Bounds.{all_deep, bound, deep_below, none_below}
use Rattle.point_writer.proofs.nearest.bound_below.Goals as goal

pub returns-in_err-raw : goal.returns-in_err-raw
returns-in_err-raw c =
    let a : FitsSigned w128 c.args.v = search rules in
    let b : FitsSigned w8 c.args.exponent = search rules in
    let d : FitsSigned w8 c.args.factor = search rules in
    let e : FitsSigned w128 c.args.most = search rules in
    let l : FitsSigned w128 c.args.least = search rules in
    let none : c.from_residual.result ≡ None = search rules in
    subst (IsBoundFor c.args.v c.args.exponent c.args.factor c.args.least c.args.most) (sym none)
    (λ m one. absurd (deep_below c.args.v c.args.exponent c.args.factor c.args.least c.args.most c.requires.low (simp to_z-of_z at c.in_err-raw.ensures) m one))

pub returns-then-raw-least : goal.returns-then-raw-least
returns-then-raw-least c =
    let a : FitsSigned w128 c.args.v = search rules in
    let b : FitsSigned w8 c.args.exponent = search rules in
    let d : FitsSigned w8 c.args.factor = search rules in
    let e : FitsSigned w128 c.args.most = search rules in
    let l : FitsSigned w128 c.args.least = search rules in
    let g : FitsSigned w128 c.in_ok-raw.raw = search rules in
    λ m one. absurd (none_below c.args.v c.args.exponent c.args.factor c.args.least c.args.most c.in_ok-raw.raw (simp to_z-of_z at c.in_ok-raw.ensures) (let t = simp to_z-of_z at c.if-raw-least.true in omega (arith, ints, t)) m one)

pub returns-in-Whole : goal.returns-in-Whole
returns-in-Whole c =
    let a : FitsSigned w128 c.args.v = search rules in
    let b : FitsSigned w8 c.args.exponent = search rules in
    let d : FitsSigned w8 c.args.factor = search rules in
    let e : FitsSigned w128 c.args.most = search rules in
    let l : FitsSigned w128 c.args.least = search rules in
    let f : FitsSigned w128 c.in-Whole.number = search rules in
    let g : FitsSigned w128 c.in_ok-raw.raw = search rules in
    let h = simp to_z-of_z at c.in-Whole.ensures in
    rw (to_z-of_z w128 c.in-Whole.number f)
    (bound c.args.v c.args.exponent c.args.factor c.args.least c.args.most c.in_ok-raw.raw c.in-Whole.number c.requires.factor c.requires.exponent (simp to_z-of_z at c.in_ok-raw.ensures) (let t = simp to_z-of_z at c.if-raw-least.false in omega (arith, ints, t))
    (down_whole c.in_ok-raw.raw c.args.factor c.args.exponent c.in-Whole.number h))

pub returns-in-Between : goal.returns-in-Between
returns-in-Between c =
    let a : FitsSigned w128 c.args.v = search rules in
    let b : FitsSigned w8 c.args.exponent = search rules in
    let d : FitsSigned w8 c.args.factor = search rules in
    let e : FitsSigned w128 c.args.most = search rules in
    let l : FitsSigned w128 c.args.least = search rules in
    let f : FitsSigned w128 c.in-Between.number = search rules in
    let g : FitsSigned w128 c.in_ok-raw.raw = search rules in
    let h = simp to_z-of_z at c.in-Between.ensures in
    rw (to_z-of_z w128 c.in-Between.number f)
    (bound c.args.v c.args.exponent c.args.factor c.args.least c.args.most c.in_ok-raw.raw c.in-Between.number c.requires.factor c.requires.exponent (simp to_z-of_z at c.in_ok-raw.ensures) (let t = simp to_z-of_z at c.if-raw-least.false in omega (arith, ints, t))
    (down_between c.in_ok-raw.raw c.args.factor c.args.exponent c.in-Between.number h))

pub returns-in-Beyond : goal.returns-in-Beyond
returns-in-Beyond c =
    let a : FitsSigned w128 c.args.v = search rules in
    let b : FitsSigned w8 c.args.exponent = search rules in
    let d : FitsSigned w8 c.args.factor = search rules in
    let e : FitsSigned w128 c.args.most = search rules in
    let l : FitsSigned w128 c.args.least = search rules in
    let g : FitsSigned w128 c.in_ok-raw.raw = search rules in
    let h = simp to_z-of_z at c.in-Beyond.ensures in
    all_deep c.args.v c.args.exponent c.args.factor c.args.least c.args.most c.in_ok-raw.raw h.0 c.requires.factor c.requires.exponent c.requires.short (simp to_z-of_z at c.in_ok-raw.ensures) (let t = simp to_z-of_z at c.if-raw-least.false in omega (arith, ints, t)) h.1 h.2
