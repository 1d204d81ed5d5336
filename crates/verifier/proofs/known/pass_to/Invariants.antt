use Rattle.std.proofs.Common.{◌≡◌, ◌-◌, ◌≤◌, length}
use Rattle.verifier.specs.Gathered.{AreGathered, NoneRefuses}
use Rattle.verifier.specs.Passing.{all_stood}
use Rattle.verifier.proofs.known.pass_to.Given as goal

-- the instructions before this one are passed
abbrev pub invariant-loop-at : goal.invariant-loop-at
invariant-loop-at l = record {
  within : l.at ≤ l.end;
  long : length l.pending ≡ length l.context.listing;
  pending : AreGathered l.context l.at l.at (all_stood (λ fact. fact) l.pending);
  unrefused : NoneRefuses l.context l.at;
}

abbrev pub decreases-loop-at : goal.decreases-loop-at
decreases-loop-at l = l.end - l.at
