use Rattle.std.proofs.Common.{◌≡◌, drop}
use Rattle.toml.specs.View.{items_view}
use Rattle.file_keys.specs.Keys.{all_texts}
use Rattle.file_keys.proofs.keys.all_texts.Given as goal

abbrev pub invariant-loop-value : goal.invariant-loop-value
invariant-loop-value l = all_texts (items_view l.list) ≡ all_texts (items_view (drop l.value-index l.list))
