use Rattle.std.proofs.Common.{rules}
use Rattle.std.specs.Int.{w64}
use Rattle.std.specs.Int.RustNames.{FitsSigned}
use Rattle.std.proofs.lemmas.Int.{to_z-of_z}
use Rattle.scan_code.proofs.ImageParts.{var_told}
use Rattle.scan_code.proofs.image_reader.Unread.range.Goals as goal

pub returns-then-is_ranged : goal.returns-then-is_ranged
returns-then-is_ranged c =
    let low : FitsSigned w64 c.in_ok-low.low = search rules in
    let high : FitsSigned w64 c.in_ok-high.high = search rules in
    let start : FitsSigned w64 c.in_ok-start.start = search rules in
    var_told c.args.name c.args.kind c.args.self.now _ _ _ c.in_ok-low.low c.in_ok-high.high c.in_ok-start.start _ _ _
    c.in_ok-low.ensures c.in_ok-high.ensures c.in_ok-start.ensures (to_z-of_z w64 _ low) (to_z-of_z w64 _ high) (to_z-of_z w64 _ start) _
