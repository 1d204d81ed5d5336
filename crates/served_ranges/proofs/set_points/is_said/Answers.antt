use Rattle.std.proofs.Common.{rules, FitsSigned, Some}
use Rattle.std.specs.Int.{w8, w16, w64}
use Rattle.std.proofs.lemmas.Int.{to_z-of_z}
use Rattle.served_ranges.specs.Shown.{AllAreShown}
use Rattle.served_ranges.proofs.set_points.is_said.Goals as goal

pub returns : goal.returns
returns c = λ yes.
    let t = c.args.tag.now in
    let a : FitsSigned w64 t.low = search rules in
    let b : FitsSigned w64 t.high = search rules in
    let e : FitsSigned w8 t.exponent = search rules in
    let f : FitsSigned w16 c.args.factor = search rules in
    let shown : AllAreShown t.point (Some c.args.factor) t.exponent t.low t.high = simp to_z-of_z at (c.all_are_shown.ensures yes) in
    shown
