use Rattle.std.proofs.Common.{◌≡◌, ◌++◌, length, slice_set}
use Rattle.facts.specs.Places.{written}
use Rattle.facts.proofs.sparse_list.SparseList.with.Given as goal

abbrev pub invariant-loop-old : goal.invariant-loop-old
invariant-loop-old g l = l.changed ++ written l.before l.places l.place ≡ slice_set l.self l.number l.place

abbrev pub decreases-loop-old : goal.decreases-loop-old
decreases-loop-old g l = length l.places
