use Rattle.std.proofs.Common.{rules, ◌∙◌, ◌-ℤ◌, FitsSigned, w64}
use Rattle.std.specs.Option.{SomeIff}
use Rattle.scan_vm.proofs.Told.{on_numbers_named, told_on_numbers}
use Rattle.scan_vm.proofs.operators.sub.Goals as goal

pub returns : goal.returns
returns c =
    let l : FitsSigned w64 c.args.left.number = search rules in
    let r : FitsSigned w64 c.args.right.number = search rules in
    c.fit_numbers.ensures _ (on_numbers_named (λ m n. SomeIff c.checked_sub.result (FitsSigned w64 (m -ℤ n)) (m -ℤ n)) c.number.ensures c.number-2.ensures l r c.checked_sub.ensures)
    ∙ told_on_numbers (λ m n. m -ℤ n) c.args.left c.args.right
