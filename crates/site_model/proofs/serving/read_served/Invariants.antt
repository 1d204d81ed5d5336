use Rattle.std.proofs.Common.{◌≡◌, drop, length, [], map, Ok}
use Rattle.toml.specs.View.{items_view}
use Rattle.file_keys.specs.Refusals.{before}
use Rattle.site_model.specs.Serving.{served_behind}
use Rattle.site_model.specs.TagView.{tag_view}
use Rattle.site_model.proofs.serving.read_served.Given as goal

-- what is served so far is that of the entries so far, and what the later entries give after it is what all give
abbrev pub invariant-loop-entry : goal.invariant-loop-entry
invariant-loop-entry l =
    (served_behind l.own (map tag_view l.tags) [] (items_view l.entries) ≡ served_behind l.own (map tag_view l.tags) l.served (items_view (drop l.entry-index l.entries)))
    × (served_behind l.own (map tag_view l.tags) [] (before l.entry-index (items_view l.entries)) ≡ Ok l.served)
    × (length l.served ≡ l.entry-index)
