-- What comes of a command on the texts of its files.
-- IEC 61131-3 edition 2, 3.2; SunSpec Device Information Model Specification, models in Modbus registers.
use Rattle.std.specs.Prelude.{ℕ, List, map, string_bytes, Option}
use Rattle.refusal_notes.specs.declared.notes.Notes.{Notes}
use Rattle.commands.specs.Explained.{IsExplained}
use Rattle.commands.specs.Obeyed.{Checks}
use Rattle.command_line.specs.declared.file_command.FileCommand.{FileCommand}
use Rattle.command_line.specs.declared.file_command.FileCommand.TheVariants.{Check, Explain, Probe, Run, Simulate}
use Rattle.command_files.specs.Probed.{ProbesOnce}
use Rattle.command_files.specs.Ran.{RunsOnce}
use Rattle.command_line.specs.Simulated.{Simulates}

-- by the command
abbrev pub ObeysFiles : FileCommand → Notes → Option (List ℕ) → Option (List ℕ) → ℕ → Type 0
ObeysFiles Check notes old new status = Checks notes.site.now notes.program.now (map string_bytes notes.defs.now) old new status
ObeysFiles (Explain listing) notes old new status = IsExplained notes.site.now notes.program.now (map string_bytes notes.defs.now) old new status
ObeysFiles (Simulate at) notes old new status = Simulates notes.plant.now (map string_bytes notes.defs.now) at.connections old new status
ObeysFiles (Run plant pace exe) notes old new status = RunsOnce notes pace old new status
ObeysFiles (Probe run) notes old new status = ProbesOnce run.unit (map string_bytes notes.defs.now) old new status
