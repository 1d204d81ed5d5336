-- What the run without arguments prints: the outcome of one scan of a program, or why there is none.
-- IEC 61131-3 (edition 2), 3.2 for what the scan means.
use Rattle.std.specs.Prelude.{◌≡◌, ◌⊎◌, ℕ, ℤ, List, ◌++◌, map, Option, Result, Ok, Err}
use Rattle.point_types.specs.declared.reading.Reading.{Reading}
use Rattle.scan_code.specs.Image.{Image}
use Rattle.scan_code.specs.Machine.{State, Ended, Trapped, At_fault, opening, run}
use Rattle.scan_code.specs.Table.{start_of}
use Rattle.scan_vm.specs.Outcome.{kind_of}
use Rattle.scan_vm.specs.Trap.{word_of}
use Rattle.scan_vm.specs.Trial.{Standing, unset}
use Rattle.scan_vm.specs.declared.trial.Scan.{Scan}
use Rattle.scan_vm.specs.declared.trap.Trap.{Trap}
use Rattle.il_reader.specs.declared.tree.Program.{Program as Tree}
use Rattle.il_assemble.specs.declared.fault.AsmFault.{AsmFault}
use Rattle.il_assemble.specs.Meaning.{Program, Outcome, Done, Fails, meaning}
use Rattle.il_assemble.specs.Code.{image_of}
use Rattle.il_assemble.specs.Correct.{AreReadings, DoesWhatItMeans}
use Rattle.il_assemble.specs.Texts.{elaborated_text}
use Rattle.il_assemble.specs.Word as assemble
use Rattle.il_reader.specs.declared.fault.ReadFault.{ReadFault}
use Rattle.il_reader.specs.Fault as read
use Rattle.il_reader.specs.Reading.{reading}
use Rattle.commands.specs.Given.{readings_given}
use Rattle.commands.specs.Input.{input_lines, lines_of, program_text}
use Rattle.commands.specs.Told.{IsTold, Told, refused_with}
use Rattle.commands.specs.Report.{bad_input_line, no_memory_line, output_lines, steps_line, trap_line, unassembled_line, unread_line, variable_lines}

-- the lines of what a trial's variables and outputs are
abbrev pub standing_lines : Standing → List ℕ
standing_lines t = variable_lines t.image.vars t.variables ++ output_lines t.image.tags t.outputs

-- the line of how a scan of it ended, and the status
abbrev pub ending_line : Result Scan Trap → List ℕ
ending_line (Ok scan) = steps_line scan.steps
ending_line (Err trap) = trap_line (word_of trap.kind) trap.at

abbrev pub ending_status : Result Scan Trap → ℕ
ending_status (Ok scan) = 0
ending_status (Err trap) = 1

-- the values before the first scan
abbrev pub starts : Program → List ℤ
starts p = map start_of p.variables

-- the lines and the status of a scan by its meaning; the image's run has these steps, or stops there
abbrev pub TellsScan : Program → List Reading → Image → Outcome → Told → Type 0
TellsScan p readings image (Done variables outputs) told =
    (n steps : ℕ) × (s : State) × (run image readings 0 n (opening image (starts p)) ≡ Ended steps s)
    × (told ≡ record { lines = variable_lines p.variables variables ++ output_lines p.tags outputs ++ steps_line steps; status = 0 })
TellsScan p readings image (Fails fault) told =
    (n at : ℕ) × (run image readings 0 n (opening image (starts p)) ≡ Trapped at (At_fault fault))
    × (told ≡ refused_with (variable_lines p.variables (starts p) ++ output_lines p.tags (unset image) ++ trap_line (word_of (kind_of fault)) at))

-- a resolved program with a reading for each tag, or the number of the input line that is refused
abbrev pub TellsGiven : Program → Result (List Reading) ℕ → Told → Type 0
TellsGiven p (Ok readings) told = TellsScan p readings (image_of p) (meaning p readings (starts p)) told
TellsGiven p (Err k) told = told ≡ refused_with (bad_input_line k)

-- a program whose names are resolved, and the input lines; or its static fault
abbrev pub TellsResolved : Result Program AsmFault → List (List ℕ) → Told → Type 0
TellsResolved (Err fault) inputs told = told ≡ refused_with (unassembled_line (assemble.word_of fault.kind) fault.line)
TellsResolved (Ok p) inputs told = TellsGiven p (readings_given p.tags inputs) told

-- a program as it was read, which has the faults that a text can have alone, and the input lines
abbrev pub TellsTree : Tree → List (List ℕ) → Told → Type 0
TellsTree tree inputs told = TellsResolved (elaborated_text tree) inputs told

-- an image on a reading for each tag, in its type: what it tells of each program whose meaning it has
abbrev pub TellsImage : Image → List Reading → Told → Type 0
TellsImage image readings told = (p : Program) → DoesWhatItMeans p image → AreReadings image.tags readings → TellsScan p readings image (meaning p readings (starts p)) told

abbrev pub TellsKnown : Image → Result (List Reading) ℕ → Told → Type 0
TellsKnown image (Ok readings) told = TellsImage image readings told
TellsKnown image (Err k) told = told ≡ refused_with (bad_input_line k)

-- an image and the input lines: what they tell of each program whose meaning the image has
abbrev pub TellsGivenImage : Image → List (List ℕ) → Told → Type 0
TellsGivenImage image inputs told = TellsKnown image (readings_given image.tags inputs) told

-- the answer of reading a program text, and the input lines after it
abbrev pub TellsReading : Result Tree ReadFault → List (List ℕ) → Told → Type 0
TellsReading (Ok tree) inputs told = TellsTree tree inputs told
TellsReading (Err fault) inputs told = told ≡ refused_with (unread_line (read.word_of fault.kind) fault.line)

-- standard input: its program text is read, assembled and run for one scan
abbrev pub TellsInput : List ℕ → Told → Type 0
TellsInput input told = TellsReading (reading (program_text input)) (input_lines (lines_of input)) told

-- the lines of one scan, or that memory was refused
abbrev pub TellsTrial : List ℕ → Told → Type 0
TellsTrial input told = TellsInput input told ⊎ (told ≡ refused_with no_memory_line)

-- what a trial writes and its status, by the bytes of the writer before and after
abbrev pub IsTrial : List ℕ → Option (List ℕ) → Option (List ℕ) → ℕ → Type 0
IsTrial input old new status = (told : Told) × TellsTrial input told × IsTold old new told status
