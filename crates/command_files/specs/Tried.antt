-- What the run without arguments prints of the bytes that its standard input gives.
-- No standard says what is printed; lines and statuses are this project's.
use Rattle.std.specs.Prelude.{◌⊎◌, ℕ, ◌<◌, List, length, ⊤, IsUtf8, Option, codes}
use Rattle.commands.specs.Outcome.{IsTrial}
use Rattle.commands.specs.Report.{no_memory_line, unusable_line}
use Rattle.commands.specs.Told.{IsTold, refused_with}
use Rattle.refusal_notes.specs.declared.file_fault.FileFault.TheVariants.{NotUtf8, TooLarge}
use Rattle.command_files.specs.declared.files.source.SourceFault.{SourceFault}
use Rattle.command_files.specs.declared.files.source.SourceFault.TheVariants.{OutOfMemory, Unusable}

-- the most bytes that are taken
abbrev pub most_bytes : ℕ
most_bytes = 16777216

-- These bytes aren't taken: they are too many, or no UTF-8. Of memory that was refused, and of a read that failed, no reader
-- tells, so then they may be any.
abbrev pub IsHindered : SourceFault → List ℕ → Type 0
IsHindered (Unusable TooLarge) bytes = most_bytes < length bytes
IsHindered (Unusable (NotUtf8 before)) bytes = ¬ (IsUtf8 bytes)
IsHindered other bytes = ⊤

-- what is told of that
abbrev pub TellsHindered : SourceFault → Option (List ℕ) → Option (List ℕ) → ℕ → Type 0
TellsHindered (Unusable fault) old new status = IsTold old new (refused_with (unusable_line (codes "-"))) status
TellsHindered OutOfMemory old new status = IsTold old new (refused_with no_memory_line) status

-- a trial of just these bytes; or they aren't taken, which is told
abbrev pub Tries : List ℕ → Option (List ℕ) → Option (List ℕ) → ℕ → Type 0
Tries bytes old new status =
    IsTrial bytes old new status
    ⊎ ((fault : SourceFault) × IsHindered fault bytes × TellsHindered fault old new status)
