-- Reads of the unit alone so far; whatever is read and told of the models that remain, all of them have with it.
use Rattle.std.proofs.Common.{ℕ, List, ◌++◌, drop}
use Rattle.std.specs.List.{AllByRecursion}
use Rattle.gateway.specs.poller.LinkRun.{Exchange}
use Rattle.gateway.specs.poller.Polling.{Talks}
use Rattle.commands.specs.Probe.{IsReadOf, ReadsModels}
use Rattle.commands.proofs.unit_points.lines_of.Given as goal

abbrev pub invariant-loop-block : goal.invariant-loop-block
invariant-loop-block g l =
    (es : List Exchange)
    × AllByRecursion (IsReadOf l.unit) es
    × Talks l.initial.poller es l.poller
    × ((others : List Exchange) (more : List ℕ) → ReadsModels l.unit l.models (drop l.block-index l.block-items) others more → ReadsModels l.unit l.models l.block-items (es ++ others) (l.lines.items ++ more))
