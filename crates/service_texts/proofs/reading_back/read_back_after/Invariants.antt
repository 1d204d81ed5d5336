use Rattle.std.proofs.Common.{◌≡◌, drop, []}
use Rattle.toml.specs.View.{items_view}
use Rattle.service_texts.specs.ReadingBack.{read_back_after}
use Rattle.service_texts.proofs.reading_back.read_back_after.Given as goal

-- what the entries that are left give after the tags so far
abbrev pub invariant-loop-entry : goal.invariant-loop-entry
invariant-loop-entry l = read_back_after [] (items_view l.entries) ≡ read_back_after l.tags (items_view (drop l.entry-index l.entries))
