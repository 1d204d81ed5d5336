use Rattle.commands.proofs.WritingLemmas.{WrittenSoFar}
use Rattle.commands.proofs.writing.write_bytes.Given as goal

abbrev pub invariant-loop-rest : goal.invariant-loop-rest
invariant-loop-rest g l = WrittenSoFar l.bytes l.rest (g.W.Write.contents l.initial.out) (g.W.Write.contents l.out)

abbrev pub decreases-loop-rest : goal.decreases-loop-rest
decreases-loop-rest g l = l.turns
