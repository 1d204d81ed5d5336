use Rattle.std.proofs.Common.{◌≡◌, [], drop, length, Ok}
use Rattle.toml.specs.View.{items_view}
use Rattle.file_keys.specs.Refusals.{before}
use Rattle.inverter_sim.specs.File.{devices_from}
use Rattle.inverter_sim.proofs.reader.device.devices_in.Given as goal

-- the devices so far are those of the entries so far, and what the later entries give after them is what all give
abbrev pub invariant-loop-entry : goal.invariant-loop-entry
invariant-loop-entry l =
    (devices_from l.defs [] (items_view l.entries) ≡ devices_from l.defs l.devices.items (items_view (drop l.entry-index l.entries)))
    × (devices_from l.defs [] (before l.entry-index (items_view l.entries)) ≡ Ok l.devices.items)
    × (length l.devices.items ≡ l.entry-index)
