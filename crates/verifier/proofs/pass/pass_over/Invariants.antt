use Rattle.std.proofs.Common.{◌≡◌, ◌-◌, ◌≤◌, length, map, None}
use Rattle.verifier.specs.Passing.{all_stood}
use Rattle.facts.specs.Slots.{is_reached, slots}
use Rattle.verifier.proofs.Passing.{ArePending, refusal_to}
use Rattle.verifier.proofs.pass.pass_over.Given as goal

-- the instructions before this one are judged
abbrev pub invariant-loop-at : goal.invariant-loop-at
invariant-loop-at g l = record {
  within : l.at ≤ length l.context.listing;
  long : length l.pending ≡ length l.context.listing;
  pending : ArePending l.context l.at (all_stood g.F.FactDomain.stands l.pending);
  reached : l.reached ≡ map is_reached (slots l.context l.at);
  unrefused : refusal_to l.context l.at ≡ None;
}

abbrev pub decreases-loop-at : goal.decreases-loop-at
decreases-loop-at g l = length l.context.listing - l.at
