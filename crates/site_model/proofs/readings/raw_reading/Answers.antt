use Rattle.std.proofs.Common.{FitsSigned, rules}
use Rattle.std.specs.Int.{w8, w64}
use Rattle.std.proofs.lemmas.Int.{to_z-of_z}
use Rattle.site_model.proofs.readings.raw_reading.Goals as goal

pub returns-in-None-true : goal.returns-in-None-true
returns-in-None-true c =
    let f = c.ranges.raw in
    let e : FitsSigned w8 c.args.tag.now.exponent = search rules in
    let l : FitsSigned w64 c.args.tag.now.low = search rules in
    let h : FitsSigned w64 c.args.tag.now.high = search rules in
    rw c.in-None-true.is-0 (rw c.in-None-true.is-1 (simp to_z-of_z at c.scaled_down.ensures))

pub returns-in-None-false : goal.returns-in-None-false
returns-in-None-false c =
    let f = c.ranges.raw in
    let e : FitsSigned w8 c.args.tag.now.exponent = search rules in
    let l : FitsSigned w64 c.args.tag.now.low = search rules in
    let h : FitsSigned w64 c.args.tag.now.high = search rules in
    rw c.in-None-false.is-0 (rw c.in-None-false.is-1 (simp to_z-of_z at c.scaled.ensures))
