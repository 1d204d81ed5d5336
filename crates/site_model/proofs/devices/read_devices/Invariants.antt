use Rattle.std.proofs.Common.{◌≡◌, drop, length, [], Ok}
use Rattle.toml.specs.View.{items_view}
use Rattle.file_keys.specs.Refusals.{before}
use Rattle.site_model.specs.Devices.{devices_behind}
use Rattle.site_model.proofs.devices.read_devices.Given as goal

-- the devices so far are those of the entries so far, and what the later entries give after them is what all give
abbrev pub invariant-loop-entry : goal.invariant-loop-entry
invariant-loop-entry l =
    (devices_behind [] (items_view l.entries) ≡ devices_behind l.devices (items_view (drop l.entry-index l.entries)))
    × (devices_behind [] (before l.entry-index (items_view l.entries)) ≡ Ok l.devices)
    × (length l.devices ≡ l.entry-index)
