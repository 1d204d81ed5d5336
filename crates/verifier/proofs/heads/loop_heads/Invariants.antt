use Rattle.std.proofs.Common.{◌≡◌, ◌++◌, length}
use Rattle.verifier.specs.Heads.{heads_of}
use Rattle.verifier.proofs.heads.loop_heads.Given as goal

abbrev pub invariant-loop-rest : goal.invariant-loop-rest
invariant-loop-rest l = l.heads.items ++ heads_of l.rest ≡ heads_of l.listing

abbrev pub decreases-loop-rest : goal.decreases-loop-rest
decreases-loop-rest l = length l.rest
