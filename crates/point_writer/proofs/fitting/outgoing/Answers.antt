use Rattle.std.proofs.Common.{FitsSigned, rules}
use Rattle.std.specs.Int.{w8, w64}
use Rattle.std.proofs.lemmas.Int.{to_z-of_z}
use Rattle.point_writer.proofs.Fitted.{in_its_place, itself, not_both}
use Rattle.point_writer.proofs.fitting.outgoing.Goals as goal

pub in_place-requires-clause-unsaid : goal.in_place-requires-clause-unsaid
in_place-requires-clause-unsaid c =
    let f : FitsSigned w64 c.args.v = search rules in
    let e : FitsSigned w8 c.args.tag.now.exponent = search rules in
    let fault = simp to_z-of_z at c.in-Err.ensures in
    rw (to_z-of_z w64 c.args.v f) (λ words h. not_both c.args.tag.now.point c.args.v c.args.tag.now.exponent c.args.factor words c.in-Err.cause h fault)

pub returns-in-Ok : goal.returns-in-Ok
returns-in-Ok c =
    let f : FitsSigned w64 c.args.v = search rules in
    let e : FitsSigned w8 c.args.tag.now.exponent = search rules in
    let words = simp to_z-of_z at c.in-Ok.ensures in
    rw (to_z-of_z w64 c.args.v f) (record { goes = itself c.args.tag.now c.args.factor c.args.v c.requires.low c.requires.high c.in-Ok.words words; words = words })

pub returns-in-Err : goal.returns-in-Err
returns-in-Err c =
    let f : FitsSigned w64 c.args.v = search rules in
    let e : FitsSigned w8 c.args.tag.now.exponent = search rules in
    let fault = simp to_z-of_z at c.in-Err.ensures in
    let place = simp to_z-of_z at c.in_place.ensures in
    in_its_place c.args.tag.now c.args.factor c.args.v c.in-Err.cause c.in_place.result c.ok_or.result fault place c.ok_or.ensures.value
