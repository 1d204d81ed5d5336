use Rattle.std.proofs.Common.{◌≤◌, ◌∷◌, arith}
use Rattle.scan_code.proofs.Bytes.{no_form}
use Rattle.scan_code.proofs.decoding.coded.Goals as goal

pub returns-in_default-clause-value : goal.returns-in_default-clause-value
returns-in_default-clause-value c =
    let past : 41 ≤ c.args.byte = omega arith in
    no_form (c.args.byte ∷ c.args.arguments.now) past
