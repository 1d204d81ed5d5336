use Rattle.std.proofs.Common.{◌≡◌, length, slice_get}
use Rattle.facts.proofs.sparse_list.SparseList.get.Given as goal

abbrev pub invariant-loop-place : goal.invariant-loop-place
invariant-loop-place g l = slice_get l.places l.before ≡ slice_get l.self l.number

abbrev pub decreases-loop-place : goal.decreases-loop-place
decreases-loop-place g l = length l.places
