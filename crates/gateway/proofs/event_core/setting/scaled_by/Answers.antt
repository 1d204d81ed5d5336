use Rattle.std.proofs.Common.{FitsSigned, rules}
use Rattle.std.specs.Int.{w8, w64}
use Rattle.std.proofs.lemmas.Int.{to_z-of_z}
use Rattle.gateway.proofs.event_core.setting.scaled_by.Goals as goal

pub returns : goal.returns
returns c =
    let f = c.ranges.raw in
    let e : FitsSigned w8 c.args.tag.now.exponent = search rules in
    let l : FitsSigned w64 c.args.tag.now.low = search rules in
    let h : FitsSigned w64 c.args.tag.now.high = search rules in
    simp to_z-of_z at c.scaled.ensures
