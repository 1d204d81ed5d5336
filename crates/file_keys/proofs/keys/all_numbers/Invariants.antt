use Rattle.std.proofs.Common.{◌≡◌, drop}
use Rattle.toml.specs.View.{items_view}
use Rattle.file_keys.specs.Keys.{all_numbers}
use Rattle.file_keys.proofs.keys.all_numbers.Given as goal

abbrev pub invariant-loop-value : goal.invariant-loop-value
invariant-loop-value l = all_numbers (items_view l.list) ≡ all_numbers (items_view (drop l.value-index l.list))
