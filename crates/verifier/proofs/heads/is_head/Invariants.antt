use Rattle.std.proofs.Common.{◌≡◌, length}
use Rattle.verifier.specs.Heads.{is_among}
use Rattle.verifier.proofs.heads.is_head.Given as goal

abbrev pub invariant-loop-rest : goal.invariant-loop-rest
invariant-loop-rest l = is_among l.rest l.address ≡ is_among l.heads l.address

abbrev pub decreases-loop-rest : goal.decreases-loop-rest
decreases-loop-rest l = length l.rest
