use Rattle.std.proofs.Common.{◌≡◌, ◌++◌, map}
use Rattle.std.specs.Vec.Iter.{into_iter_items}
use Rattle.facts.specs.Flow.{forgets_in}
use Rattle.facts.proofs.deferred.forgetting.Given as goal

abbrev pub invariant-loop-value : goal.invariant-loop-value
invariant-loop-value l = l.kept.items ++ map (forgets_in l.v) (into_iter_items l.value-iterator) ≡ map (forgets_in l.v) l.fn.values
