use Rattle.std.proofs.Common.{FitsSigned, rules}
use Rattle.std.specs.Int.{w8, w64}
use Rattle.std.proofs.lemmas.Int.{to_z-of_z}
use Rattle.point_writer.proofs.Fitted.{some_next, unsaid_next}
use Rattle.point_writer.proofs.fitting.in_place.Goals as goal

pub returns-in-Ok : goal.returns-in-Ok
returns-in-Ok c =
    let f : FitsSigned w64 c.in_ok-number.number = search rules in
    let g : FitsSigned w64 c.args.v = search rules in
    let e : FitsSigned w8 c.args.tag.now.exponent = search rules in
    let words = simp to_z-of_z at c.in-Ok.ensures in
    let next = simp to_z-of_z at c.in_ok-number.ensures in
    rw (to_z-of_z w64 c.in_ok-number.number f) (record {
      goes = some_next c.args.tag.now c.args.factor c.args.v c.in_ok-number.number c.requires.low c.requires.high next c.in-Ok.words words;
      words = words;
    })

pub returns-in-Err : goal.returns-in-Err
returns-in-Err c =
    let f : FitsSigned w64 c.in_ok-number.number = search rules in
    let g : FitsSigned w64 c.args.v = search rules in
    let e : FitsSigned w8 c.args.tag.now.exponent = search rules in
    unsaid_next c.args.tag.now c.args.factor c.args.v c.in_ok-number.number (simp to_z-of_z at c.in_ok-number.ensures) c.in-Err.field-0 (simp to_z-of_z at c.in-Err.ensures)
