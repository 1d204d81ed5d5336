-- Those outputs so far whose tag goes with this one came at the end.
use Rattle.std.proofs.Common.{◌≡◌, ◌++◌, take}
use Rattle.gateway.specs.poller.Cycle.{going_with, most_outputs}
use Rattle.gateway.proofs.poller.write_order.WriteOrder.add_those_with.Given as goal

abbrev pub invariant-loop-i : goal.invariant-loop-i
invariant-loop-i l = (l.self.outputs).items ≡ take most_outputs ((l.initial.self.outputs).items ++ going_with l.site.tags l.leader 0 (take l.i l.site.outs))
