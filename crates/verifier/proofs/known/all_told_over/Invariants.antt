use Rattle.std.proofs.Common.{◌≡◌, ◌-◌, ◌≤◌, length, map}
use Rattle.facts.specs.Slots.{slots}
use Rattle.verifier.specs.Gathered.{AreGathered, NoneRefuses}
use Rattle.verifier.specs.Passing.{all_stood}
use Rattle.verifier.specs.Told.{standing_of}
use Rattle.verifier.proofs.known.all_told_over.Given as goal

-- the instructions before this one are told
abbrev pub invariant-loop-at : goal.invariant-loop-at
invariant-loop-at l = record {
  within : l.at ≤ length l.context.listing;
  long : length l.pending ≡ length l.context.listing;
  pending : AreGathered l.context l.at l.at (all_stood (λ fact. fact) l.pending);
  told : l.standings ≡ map (standing_of l.context) (slots l.context l.at);
  unrefused : NoneRefuses l.context l.at;
}

abbrev pub decreases-loop-at : goal.decreases-loop-at
decreases-loop-at l = length l.context.listing - l.at
