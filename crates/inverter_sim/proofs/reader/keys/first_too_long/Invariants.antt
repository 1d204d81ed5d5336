use Rattle.std.proofs.Common.{◌≡◌, drop, false}
use Rattle.toml.specs.View.{items_view}
use Rattle.file_keys.specs.Refusals.{before}
use Rattle.inverter_sim.specs.File.{any_of, device_has_too_many}
use Rattle.inverter_sim.proofs.reader.keys.first_too_long.Given as goal

-- no device so far has too many, and the number is that of the next
abbrev pub invariant-loop-tree : goal.invariant-loop-tree
invariant-loop-tree l =
    (any_of device_has_too_many (items_view l.trees.items) ≡ any_of device_has_too_many (items_view (drop l.tree-index l.trees.items)))
    × (any_of device_has_too_many (before l.tree-index (items_view l.trees.items)) ≡ false)
    × (l.number ≡ l.tree-index)
