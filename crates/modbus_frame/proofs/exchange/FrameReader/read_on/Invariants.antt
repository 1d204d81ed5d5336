use Rattle.std.proofs.Common.{◌-◌}
use Rattle.modbus_frame.proofs.Receiving.{ReadSoFar}
use Rattle.modbus_frame.proofs.exchange.FrameReader.read_on.Given as goal

abbrev pub invariant-loop-frame : goal.invariant-loop-frame
invariant-loop-frame g l = ReadSoFar l.initial.self l.self (g.L.Link.coming l.initial.link) (g.L.Link.coming l.link) (g.L.Link.sent l.initial.link) (g.L.Link.sent l.link) (g.L.Link.failures l.initial.link) (g.L.Link.failures l.link) (g.L.Link.calls l.initial.link) (g.L.Link.calls l.link) l.initial.turns l.turns (l.initial.turns - l.turns)

abbrev pub decreases-loop-frame : goal.decreases-loop-frame
decreases-loop-frame g l = l.turns
