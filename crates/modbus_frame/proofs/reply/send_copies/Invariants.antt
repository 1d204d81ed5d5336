use Rattle.std.proofs.Common.{◌-◌, ◌≤◌, Ok}
use Rattle.modbus_frame.specs.Serving.{Sends, copies}
use Rattle.modbus_frame.proofs.reply.send_copies.Given as goal

-- the copies so far are sent
abbrev pub invariant-loop-left : goal.invariant-loop-left
invariant-loop-left g l =
    Sends
    (record { coming = g.L.Link.coming l.initial.link; sent = g.L.Link.sent l.initial.link; failures = g.L.Link.failures l.initial.link; calls = g.L.Link.calls l.initial.link })
    (record { coming = g.L.Link.coming l.link; sent = g.L.Link.sent l.link; failures = g.L.Link.failures l.link; calls = g.L.Link.calls l.link })
    (Ok tt) (copies (l.count - l.left) l.bytes) l.initial.turns l.turns
    × (l.left ≤ l.count)

abbrev pub decreases-loop-left : goal.decreases-loop-left
decreases-loop-left g l = l.left
