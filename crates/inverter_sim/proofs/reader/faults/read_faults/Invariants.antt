use Rattle.std.proofs.Common.{◌≡◌, [], drop, length, Ok}
use Rattle.toml.specs.View.{items_view}
use Rattle.file_keys.specs.Refusals.{before}
use Rattle.inverter_sim.specs.File.{faults_from}
use Rattle.inverter_sim.proofs.reader.faults.read_faults.Given as goal

-- the faults so far are those of the entries so far, and what the later entries give after them is what all give
abbrev pub invariant-loop-entry : goal.invariant-loop-entry
invariant-loop-entry l =
    (faults_from [] (items_view l.entries) ≡ faults_from l.faults.items (items_view (drop l.entry-index l.entries)))
    × (faults_from [] (before l.entry-index (items_view l.entries)) ≡ Ok l.faults.items)
    × (length l.faults.items ≡ l.entry-index)
