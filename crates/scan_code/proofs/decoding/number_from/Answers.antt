use Rattle.std.proofs.Common.{rules, ◌≡◌, ℕ, ◌<◌, length, get_or, ◌∙◌}
use Rattle.std.specs.Int.{w64}
use Rattle.std.specs.Int.RustNames.{FitsSigned}
use Rattle.std.proofs.lemmas.Int.{to_z-of_z}
use Rattle.scan_code.proofs.Bytes.{number_of_eight}
use Rattle.scan_code.proofs.decoding.number_from.Goals as goal

pub returns : goal.returns
returns c =
    let fits : FitsSigned w64 c.from_be_bytes.result = search rules in
    let eight : length c.args.bytes ≡ 8 = search rules in
    let small : (i : ℕ) → get_or c.args.bytes i 0 < 256 = search rules in
    to_z-of_z w64 _ fits ∙ c.from_be_bytes.ensures ∙ number_of_eight c.args.bytes eight small
