use Rattle.std.proofs.Common.{◌≡◌, length}
use Rattle.verifier.specs.Passing.{all_delivered, all_stood, ways_stood}
use Rattle.verifier.proofs.pass.deliver_all.Given as goal

-- what is left is still to be delivered
abbrev pub invariant-loop-alloc : goal.invariant-loop-alloc
invariant-loop-alloc g l =
    let stands = g.F.FactDomain.stands in
    all_delivered (ways_stood stands l.ways.items) (all_stood stands l.pending) ≡ all_delivered (ways_stood stands l.fn.ways) (all_stood stands l.fn.pending)

abbrev pub decreases-loop-alloc : goal.decreases-loop-alloc
decreases-loop-alloc g l = length l.ways.items
