use Rattle.std.proofs.Common.{◌≡◌, ◌++◌, length}
use Rattle.scan_vm.specs.Resuming.{first_numbers}
use Rattle.scan_vm.proofs.resuming.first_numbers.Given as goal

abbrev pub invariant-loop-var : goal.invariant-loop-var
invariant-loop-var l = l.numbers.items ++ first_numbers l.vars l.kept ≡ first_numbers l.fn.vars l.fn.kept

abbrev pub decreases-loop-var : goal.decreases-loop-var
decreases-loop-var l = length l.vars
