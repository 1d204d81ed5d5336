use Rattle.std.proofs.Common.{rules, ◌∙◌, ap, FitsSigned, w64}
use Rattle.std.specs.Int.{IsNonZero, CanDivide}
use Rattle.std.specs.Int.RustNames.{int_div}
use Rattle.std.specs.Option.{SomeIff}
use Rattle.point_types.specs.Value.{fitted}
use Rattle.scan_vm.specs.Outcome.{told}
use Rattle.scan_vm.proofs.Told.{on_numbers_named, quotient_fits}
use Rattle.scan_vm.proofs.operators.quotient.Goals as goal

pub returns : goal.returns
returns c =
    let l : FitsSigned w64 c.args.left.number = search rules in
    let r : FitsSigned w64 c.args.right.number = search rules in
    let divisor : IsNonZero w64 c.args.right.number = search rules in
    let divided = on_numbers_named (λ m n. SomeIff c.checked_div.result (CanDivide w64 m n) (int_div m n)) c.number.ensures c.number-2.ensures l r c.checked_div.ensures in
    c.fit_checked.ensures _ (quotient_fits c.args.left.number c.args.right.number c.checked_div.result divisor divided)
    ∙ ap (λ k. told (fitted k (int_div c.args.left.number c.args.right.number))) c.kind.ensures
