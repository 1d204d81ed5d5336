use Rattle.std.proofs.Common.{◌≤◌, length}
use Rattle.history.proofs.asked.Asked.of.Given as goal

abbrev pub invariant-loop-pair : goal.invariant-loop-pair
invariant-loop-pair l = length l.asked.names.items ≤ 16
