-- The table of lines: for each instruction of an image the line of the statement whose code it is in.
-- IEC 61131-3 (edition 2), 3.2 leaves the form of compiled code open; this table is this project's.
use Rattle.std.specs.Prelude.{◌≡◌, ℕ, ◌+◌, List, [], ◌∷◌, ◌++◌, length, replicate, Ok, Option, Some, None, option_map}
use Rattle.point_types.specs.declared.il_type.IlType.{IlType}
use Rattle.scan_code.specs.declared.op.Op.TheVariants as does
use Rattle.il_reader.specs.declared.tree.Program.{Program as Tree}
use Rattle.il_reader.specs.declared.tree.Statement.{Statement}
use Rattle.il_reader.specs.declared.tree.Action.{Action}
use Rattle.il_reader.specs.declared.tree.Action.TheVariants as action
use Rattle.il_assemble.specs.Meaning.{Program}
use Rattle.il_assemble.specs.Assembled.{code_of}
use Rattle.il_assemble.specs.Code.{action_code, code_of_program, label_address}
use Rattle.il_assemble.specs.Elaboration.{Part, elaborated, parts_of, program_of, resolved_action, scope_of, turns_of}
use Rattle.il_assemble.specs.Names.{Scope}
use Rattle.il_assemble.specs.Typing.{loaded_type, type_after_line}

-- The code of a statement in parts, each with its line: inside parentheses each instruction has its own, all else is one part.
-- Where so many counted jumps stand before it and the lines rest after it.
abbrev pub statement_parts : (ℕ → ℕ) → Scope → ℕ → Option IlType → List Statement → ℕ → Option Action → List Part
statement_parts address g counter running rest line (Some (action.Compute simple)) = parts_of g line running (loaded_type g rest) simple
statement_parts address g counter running rest line a = record { line = line; code = action_code address (option_map (resolved_action g counter running rest) a) } ∷ []

-- the code of all lines, and after the last one the end, which has the line of END_PROGRAM
abbrev pub body_parts : (ℕ → ℕ) → Scope → ℕ → ℕ → Option IlType → List Statement → List Part
body_parts address g end_line counter running [] = record { line = end_line; code = does.End ∷ [] } ∷ []
body_parts address g end_line counter running (s ∷ ss) =
    statement_parts address g counter running ss s.line s.action
    ++ body_parts address g end_line (counter + length (turns_of s.action)) (type_after_line g running ss s.action) ss

abbrev pub program_parts : Tree → List Part
program_parts t = body_parts (label_address (program_of (scope_of t)).body 0) (scope_of t) t.end_line 0 None t.statements

-- the line of each instruction, in the order of the code
abbrev pub lines_of : List Part → List ℕ
lines_of [] = []
lines_of (p ∷ ps) = replicate (length p.code) p.line ++ lines_of ps

abbrev pub instruction_lines : Tree → List ℕ
instruction_lines t = lines_of (program_parts t)

-- the parts by which the lines are told make up the code of the program, so instruction i of the image has line i of the table
abbrev pub InstructionsHaveTheirLines : Type 0
InstructionsHaveTheirLines = (tree : Tree) (program : Program) → elaborated tree ≡ Ok program → code_of (program_parts tree) ≡ code_of_program program
