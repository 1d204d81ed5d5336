use Rattle.std.proofs.Common.{◌≡◌, [], drop, length, Ok}
use Rattle.toml.specs.View.{items_view}
use Rattle.file_keys.specs.Refusals.{before}
use Rattle.inverter_sim.specs.File.{valued_all}
use Rattle.inverter_sim.specs.Reading.{models_view}
use Rattle.inverter_sim.proofs.reader.values.give_values.Given as goal

-- the registers so far are those of the entries so far, and what the later entries give after them is what all give
abbrev pub invariant-loop-entry : goal.invariant-loop-entry
invariant-loop-entry l =
    (valued_all (models_view l.models) (record { registers = l.initial.registers.items; seen = [] }) (items_view l.entries)
    ≡ valued_all (models_view l.models) (record { registers = l.registers.items; seen = l.seen.items }) (items_view (drop l.entry-index l.entries)))
    × (valued_all (models_view l.models) (record { registers = l.initial.registers.items; seen = [] }) (before l.entry-index (items_view l.entries))
    ≡ Ok (record { registers = l.registers.items; seen = l.seen.items }))
    × (length l.seen.items ≡ l.entry-index)
    × (length l.registers.items ≡ length l.initial.registers.items)
