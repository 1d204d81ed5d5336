use Rattle.std.proofs.Common.{◌≡◌, ◌++◌}
use Rattle.std.specs.Vec.Iter.{into_iter_items, into_iter_len}
use Rattle.facts.specs.Fact.{met_value, zipped}
use Rattle.facts.proofs.deferred.met_values.Given as goal

abbrev pub invariant-loop-one : goal.invariant-loop-one
invariant-loop-one l = l.values.items ++ zipped met_value (into_iter_items l.ones) l.others ≡ zipped met_value l.fn.ones l.fn.others

abbrev pub decreases-loop-one : goal.decreases-loop-one
decreases-loop-one l = into_iter_len l.ones
