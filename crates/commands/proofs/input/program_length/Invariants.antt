use Rattle.std.proofs.Common.{length}
use Rattle.commands.proofs.LineLemmas.{Reads}
use Rattle.commands.proofs.input.program_length.Given as goal

abbrev pub invariant-loop-rest : goal.invariant-loop-rest
invariant-loop-rest l = Reads l.rest l.fn.text

abbrev pub decreases-loop-rest : goal.decreases-loop-rest
decreases-loop-rest l = length l.rest
