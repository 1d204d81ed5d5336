use Rattle.std.proofs.Common.{List}
use Rattle.history.specs.Recorded.{AreKeptOf}
use Rattle.history.specs.Steps.{Put}
use Rattle.history.proofs.Places.{passed}
use Rattle.history.proofs.quantities.pass_all.Given as goal

abbrev pub invariant-loop-one : goal.invariant-loop-one
invariant-loop-one l = (puts : List Put) → AreKeptOf puts l.fn.series → AreKeptOf (passed l.one-index puts) l.series
