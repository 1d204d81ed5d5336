use Rattle.service_edges.specs.Bytes.{HandsOver}
use Rattle.service_edges.proofs.connection.Connection.hand_over.Given as goal

-- so far each byte was handed over once
abbrev pub invariant-loop : goal.invariant-loop
invariant-loop g l = HandsOver (g.T.Taker.taken l.initial.taker) l.initial.self.piece (g.S.Read.remaining l.initial.self.stream) (g.T.Taker.taken l.taker) l.self.piece (g.S.Read.remaining l.self.stream)
