use Rattle.std.proofs.Common.{◌≡◌, ◌++◌, drop, option_map}
use Rattle.toml.specs.View.{items_view}
use Rattle.inverter_sim.specs.File.{integers_in}
use Rattle.inverter_sim.proofs.reader.keys.integers_in.Given as goal

-- the numbers so far, and then those of what remains
abbrev pub invariant-loop-tree : goal.invariant-loop-tree
invariant-loop-tree l = integers_in (items_view l.trees.items) ≡ option_map (λ ns. l.integers.items ++ ns) (integers_in (items_view (drop l.tree-index l.trees.items)))
