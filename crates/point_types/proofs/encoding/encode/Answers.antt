use Rattle.std.proofs.Common.{FitsSigned, rules}
use Rattle.std.specs.Int.{w8, w128}
use Rattle.std.proofs.lemmas.Int.{to_z-of_z}
use Rattle.point_types.specs.Reading.{factor_of}
use Rattle.point_types.proofs.Encodings.{between_encodes, beyond_encodes}
use Rattle.point_types.proofs.encoding.encode.Goals as goal

pub returns-in-Between : goal.returns-in-Between
returns-in-Between g c =
    let f = c.ranges.v in
    let e = c.ranges.exponent in
    let h : FitsSigned w8 c.in-Some.factor = search rules in
    let w : FitsSigned w128 c.from.result = search rules in
    let same = simp to_z-of_z at c.from.ensures in
    let above = rw same at (simp to_z-of_z at (c.in-Between.ensures {u = tt})) in
    between_encodes c.args.kind c.args.v c.in-Some.factor c.args.exponent c.in-Between.field-0 (factor_of c.args.sf) (c.in-Some.ensures {u = tt}) above

pub returns-in-Beyond : goal.returns-in-Beyond
returns-in-Beyond g c =
    let f = c.ranges.v in
    let e = c.ranges.exponent in
    let h : FitsSigned w8 c.in-Some.factor = search rules in
    let w : FitsSigned w128 c.from.result = search rules in
    let same = simp to_z-of_z at c.from.ensures in
    let beyond = rw same at (simp to_z-of_z at (c.in-Beyond.ensures {u = tt})) in
    beyond_encodes c.args.kind c.args.v c.in-Some.factor c.args.exponent beyond.0 (factor_of c.args.sf) (c.in-Some.ensures {u = tt}) beyond.1 beyond.2
