use Rattle.std.proofs.Common.{◌-◌, ◌≤◌}
use Rattle.std.specs.Io.KnownBytes.{Keeps}
use Rattle.modbus_frame.specs.Exchange.{left}
use Rattle.modbus_frame.specs.Link.{CountsBy, FailsBy}
use Rattle.gateway.proofs.Dropping.{DroppedSoFar}
use Rattle.gateway.proofs.poller.exchange.wait.Given as goal

abbrev pub invariant-loop-may_drop : goal.invariant-loop-may_drop
invariant-loop-may_drop g l =
    DroppedSoFar (left l.initial.reader (g.L.Link.coming l.initial.link)) (left l.reader (g.L.Link.coming l.link)) (record { id = l.id; unit = l.unit; request = l.request }) l.may_drop l.reader.held.fault
    × Keeps (g.L.Link.sent l.initial.link) (g.L.Link.sent l.link)
    × FailsBy 0 0 0 (g.L.Link.failures l.initial.link) (g.L.Link.failures l.link)
    × CountsBy (l.initial.turns - l.turns) (g.L.Link.calls l.initial.link) (g.L.Link.calls l.link)
    × (l.turns ≤ l.initial.turns)

abbrev pub decreases-loop-may_drop : goal.decreases-loop-may_drop
decreases-loop-may_drop g l = l.may_drop
