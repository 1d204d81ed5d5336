use Rattle.std.proofs.Common.{◌≡◌, drop, []}
use Rattle.toml.specs.View.{items_view}
use Rattle.service_texts.specs.Retaining.{names_after}
use Rattle.service_texts.proofs.retaining.names_after.Given as goal

-- what the rest of the texts give after the names so far
abbrev pub invariant-loop-text : goal.invariant-loop-text
invariant-loop-text l = names_after [] (items_view l.texts) ≡ names_after l.names (items_view (drop l.text-index l.texts))
