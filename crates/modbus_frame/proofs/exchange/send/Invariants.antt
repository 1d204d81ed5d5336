use Rattle.std.proofs.Common.{◌-◌}
use Rattle.modbus_frame.proofs.Sending.{SentSoFar}
use Rattle.modbus_frame.proofs.exchange.send.Given as goal

abbrev pub invariant-loop-rest : goal.invariant-loop-rest
invariant-loop-rest g l = SentSoFar l.bytes l.rest (g.L.Link.sent l.initial.link) (g.L.Link.sent l.link) (g.L.Link.coming l.initial.link) (g.L.Link.coming l.link) (g.L.Link.failures l.initial.link) (g.L.Link.failures l.link) (g.L.Link.calls l.initial.link) (g.L.Link.calls l.link) l.initial.turns l.turns (l.initial.turns - l.turns)

abbrev pub decreases-loop-rest : goal.decreases-loop-rest
decreases-loop-rest g l = l.turns
