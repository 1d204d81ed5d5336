use Rattle.std.proofs.Common.{◌≡◌, ◌-◌, ◌≤◌, length}
use Rattle.verifier.specs.Passing.{all_stood}
use Rattle.verifier.proofs.Passing.{AreOpen}
use Rattle.verifier.proofs.pass.opened.Given as goal

abbrev pub invariant-loop-n : goal.invariant-loop-n
invariant-loop-n g l = record {
  within : l.n ≤ length l.context.listing;
  counted : l.n ≡ length l.pending.items;
  unmet : AreOpen l.context (all_stood g.F.FactDomain.stands l.pending.items);
}

abbrev pub decreases-loop-n : goal.decreases-loop-n
decreases-loop-n g l = length l.context.listing - l.n
