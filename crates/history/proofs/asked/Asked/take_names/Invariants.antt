use Rattle.std.proofs.Common.{◌≤◌, length}
use Rattle.history.proofs.asked.Asked.take_names.Given as goal

abbrev pub invariant-loop-name : goal.invariant-loop-name
invariant-loop-name l = length l.self.names.items ≤ 16
