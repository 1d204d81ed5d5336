use Rattle.std.proofs.Common.{◌≡◌, ◌≤◌, length, drop}
use Rattle.verifier.specs.Budget.{greatest_from}
use Rattle.verifier.proofs.budget.longest_path.Given as goal

-- the greatest of the instructions from n on
abbrev pub invariant-loop-n : goal.invariant-loop-n
invariant-loop-n l = record {
  within : l.n ≤ length l.listing;
  done : l.longest ≡ greatest_from l.listing l.n (drop l.n l.lengths) (drop l.n l.listing);
  short : l.longest ≤ 65535;
}

abbrev pub decreases-loop-n : goal.decreases-loop-n
decreases-loop-n l = l.n
