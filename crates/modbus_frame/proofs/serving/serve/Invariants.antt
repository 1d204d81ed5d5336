-- Frames were answered, by so many reads and writes.
use Rattle.modbus_frame.proofs.Answering.{ServedSoFar}
use Rattle.modbus_frame.proofs.serving.serve.Given as goal

abbrev pub invariant-loop-frame : goal.invariant-loop-frame
invariant-loop-frame g l =
    ServedSoFar g.R.Responder.answers
    (record { coming = g.L.Link.coming l.initial.link; sent = g.L.Link.sent l.initial.link; failures = g.L.Link.failures l.initial.link; calls = g.L.Link.calls l.initial.link })
    (record { coming = g.L.Link.coming l.link; sent = g.L.Link.sent l.link; failures = g.L.Link.failures l.link; calls = g.L.Link.calls l.link })
    l.initial.responder l.responder l.reader l.served l.turns

abbrev pub decreases-loop-frame : goal.decreases-loop-frame
decreases-loop-frame g l = l.turns
