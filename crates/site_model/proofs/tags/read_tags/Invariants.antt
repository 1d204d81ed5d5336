use Rattle.std.proofs.Common.{◌≡◌, drop, length, [], map, Ok}
use Rattle.toml.specs.View.{items_view}
use Rattle.file_keys.specs.Refusals.{before}
use Rattle.site_model.specs.Tagging.{tags_behind}
use Rattle.site_model.specs.TagView.{tag_view}
use Rattle.site_model.proofs.tags.read_tags.Given as goal

-- the tags so far are those of the entries so far, and what the later entries give after them is what all give
abbrev pub invariant-loop-entry : goal.invariant-loop-entry
invariant-loop-entry l =
    (tags_behind l.scope.devices.now l.scope.own.now l.scope.defs.now [] (items_view l.entries)
    ≡ tags_behind l.scope.devices.now l.scope.own.now l.scope.defs.now (map tag_view l.tags) (items_view (drop l.entry-index l.entries)))
    × (tags_behind l.scope.devices.now l.scope.own.now l.scope.defs.now [] (before l.entry-index (items_view l.entries)) ≡ Ok (map tag_view l.tags))
    × (length l.tags ≡ l.entry-index)
