use Rattle.std.proofs.Common.{◌≡◌, ◌≤◌, length, drop}
use Rattle.verifier.specs.Budget.{lengths_from}
use Rattle.verifier.proofs.budget.path_lengths.Given as goal

-- the lengths of the instructions from n on are there
abbrev pub invariant-loop-n : goal.invariant-loop-n
invariant-loop-n l = record {
  within : l.n ≤ length l.context.listing;
  each : length l.lengths.items ≡ length l.context.listing;
  done : drop l.n l.lengths.items ≡ lengths_from l.context.listing l.n (drop l.n l.reached) (drop l.n l.context.listing);
}

abbrev pub decreases-loop-n : goal.decreases-loop-n
decreases-loop-n l = l.n
