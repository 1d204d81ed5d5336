use Rattle.std.proofs.Common.{FitsSigned, arith, rules}
use Rattle.std.specs.Int.{w8, w128}
use Rattle.std.proofs.lemmas.Int.{ints, to_z-of_z}
use Rattle.point_writer.proofs.Bounds.{raw_above, raw_between, raw_deep, raw_whole}
use Rattle.point_writer.proofs.nearest.raw_below.Goals as goal

pub returns-in-Whole : goal.returns-in-Whole
returns-in-Whole c =
    let f : FitsSigned w128 c.capped.result = search rules in
    let a : FitsSigned w128 c.args.v = search rules in
    let b : FitsSigned w8 c.args.exponent = search rules in
    let d : FitsSigned w8 c.args.factor = search rules in
    let e : FitsSigned w128 c.args.most = search rules in
    let g : FitsSigned w128 c.in-Whole.raw = search rules in
    rw (to_z-of_z w128 c.capped.result f)
    (raw_whole c.args.v c.args.exponent c.args.factor c.args.most c.in-Whole.raw c.capped.result (simp to_z-of_z at c.in-Whole.ensures) (simp to_z-of_z at c.capped.ensures.small) (simp to_z-of_z at c.capped.ensures.large))

pub returns-in-Between : goal.returns-in-Between
returns-in-Between c =
    let f : FitsSigned w128 c.capped-in-Between.result = search rules in
    let a : FitsSigned w128 c.args.v = search rules in
    let b : FitsSigned w8 c.args.exponent = search rules in
    let d : FitsSigned w8 c.args.factor = search rules in
    let e : FitsSigned w128 c.args.most = search rules in
    let g : FitsSigned w128 c.in-Between.raw = search rules in
    rw (to_z-of_z w128 c.capped-in-Between.result f)
    (raw_between c.args.v c.args.exponent c.args.factor c.args.most c.in-Between.raw c.capped-in-Between.result (simp to_z-of_z at c.in-Between.ensures) (simp to_z-of_z at c.capped-in-Between.ensures.small) (simp to_z-of_z at c.capped-in-Between.ensures.large))

pub returns-in-Beyond : goal.returns-in-Beyond
returns-in-Beyond c =
    let a : FitsSigned w128 c.args.v = search rules in
    let b : FitsSigned w8 c.args.exponent = search rules in
    let d : FitsSigned w8 c.args.factor = search rules in
    let e : FitsSigned w128 c.args.most = search rules in
    let h = simp to_z-of_z at c.in-Beyond.ensures in
    rw (to_z-of_z w128 c.args.most e)
    (raw_above c.args.v c.args.exponent c.args.factor c.args.most h.0 h.1 h.2 (let t = simp to_z-of_z at c.if-v-gt0.true in omega (arith, ints, t)) c.requires.high)

pub returns-in-Beyond-2 : goal.returns-in-Beyond-2
returns-in-Beyond-2 c =
    let a : FitsSigned w128 c.args.v = search rules in
    let b : FitsSigned w8 c.args.exponent = search rules in
    let d : FitsSigned w8 c.args.factor = search rules in
    let e : FitsSigned w128 c.args.most = search rules in
    let h = simp to_z-of_z at c.in-Beyond.ensures in
    raw_deep c.args.v c.args.exponent c.args.factor h.0 h.1 h.2 (let t = simp to_z-of_z at c.if-v-gt0.false in omega (arith, ints, t))
