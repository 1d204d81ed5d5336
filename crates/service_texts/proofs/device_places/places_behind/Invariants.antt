use Rattle.std.proofs.Common.{◌≡◌, drop, []}
use Rattle.toml.specs.View.{items_view}
use Rattle.service_texts.specs.Places.{places_behind}
use Rattle.service_texts.proofs.device_places.places_behind.Given as goal

-- what the later entries give after the places so far
abbrev pub invariant-loop-entry : goal.invariant-loop-entry
invariant-loop-entry l = places_behind [] (items_view l.entries) ≡ places_behind l.places (items_view (drop l.entry-index l.entries))
