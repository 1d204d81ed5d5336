use Rattle.std.proofs.Common.{◌≡◌, ◌+◌, ◌*◌, ◌≤◌, length}
use Rattle.verifier.specs.Budget.{total_count}
use Rattle.verifier.proofs.budget.total_count.Given as goal

abbrev pub invariant-loop-rest : goal.invariant-loop-rest
invariant-loop-rest l = record {
  done : l.total + total_count l.rest ≡ total_count l.listing;
  bounded : l.total + 255 * length l.rest ≤ 255 * length l.listing;
}

abbrev pub decreases-loop-rest : goal.decreases-loop-rest
decreases-loop-rest l = length l.rest
