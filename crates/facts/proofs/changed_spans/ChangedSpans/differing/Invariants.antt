use Rattle.std.proofs.Common.{◌≡◌, ◌++◌, length}
use Rattle.facts.specs.Numbered.{differing}
use Rattle.facts.proofs.changed_spans.ChangedSpans.differing.Given as goal

abbrev pub invariant-loop-one : goal.invariant-loop-one
invariant-loop-one l = l.found ++ differing l.number l.ones l.others ≡ differing 0 l.self l.other

abbrev pub decreases-loop-one : goal.decreases-loop-one
decreases-loop-one l = length l.ones
