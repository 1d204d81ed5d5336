-- Standard input of the run without arguments: a program text, and input lines after it.
-- IEC 61131-3 edition 2, annex B (what a program's text is); how it comes in is this project's.
use Rattle.std.specs.Prelude.{ℕ, ◌+◌, Bool, ◌||◌, List, [], ◌∷◌, ◌++◌, map, if◌then◌else◌, nat_eq, bytes_eq, codes, ◌-◌, take, length}
use Rattle.std.specs.List.{ends_with, list_all}
use Rattle.std.specs.Char.{to_ascii_lowercase}

abbrev pub is_blank : ℕ → Bool
is_blank b = nat_eq b 32 || nat_eq b 9

-- a byte before the first line
abbrev pub onto_first : ℕ → List (List ℕ) → List (List ℕ)
onto_first b [] = (b ∷ []) ∷ []
onto_first b (line ∷ lines) = (b ∷ line) ∷ lines

-- the lines of a text, each with its end
abbrev pub lines_of : List ℕ → List (List ℕ)
lines_of [] = []
lines_of (b ∷ bs) = if nat_eq b 10 then (b ∷ []) ∷ lines_of bs else onto_first b (lines_of bs)

-- without the blanks in front
abbrev pub past_blanks : List ℕ → List ℕ
past_blanks [] = []
past_blanks (b ∷ bs) = if is_blank b then past_blanks bs else b ∷ bs

abbrev pub unless_blank : ℕ → List ℕ → List ℕ
unless_blank b [] = if is_blank b then [] else b ∷ []
unless_blank b (c ∷ cs) = b ∷ c ∷ cs

-- without the blanks after it
abbrev pub before_blanks : List ℕ → List ℕ
before_blanks [] = []
before_blanks (b ∷ bs) = unless_blank b (before_blanks bs)

-- without a line's end: a carriage return and a line feed, or a line feed
abbrev pub before_end : List ℕ → List ℕ
before_end line =
    if ends_with nat_eq line (13 ∷ 10 ∷ []) then take (length line - 2) line
    else if ends_with nat_eq line (10 ∷ []) then take (length line - 1) line
    else line

-- what stands on a line between blanks
abbrev pub trimmed : List ℕ → List ℕ
trimmed line = before_blanks (past_blanks (before_end line))

-- the line whose only word is END_PROGRAM, in any case
abbrev pub is_last_line : List ℕ → Bool
is_last_line line = bytes_eq (map to_ascii_lowercase (trimmed line)) (codes "end_program")

-- the lines of the program text: up to the first such line, and with it
abbrev pub program_lines : List (List ℕ) → List (List ℕ)
program_lines [] = []
program_lines (line ∷ lines) = line ∷ (if is_last_line line then [] else program_lines lines)

-- the lines after the program text
abbrev pub input_lines : List (List ℕ) → List (List ℕ)
input_lines [] = []
input_lines (line ∷ lines) = if is_last_line line then lines else input_lines lines

abbrev pub joined : List (List ℕ) → List ℕ
joined [] = []
joined (line ∷ lines) = line ++ joined lines

-- how many bytes the first line has, with its end
abbrev pub line_length : List ℕ → ℕ
line_length [] = 0
line_length (b ∷ bs) = if nat_eq b 10 then 1 else line_length bs + 1

abbrev pub program_text : List ℕ → List ℕ
program_text text = joined (program_lines (lines_of text))

-- a line without a word
abbrev pub is_blank_line : List ℕ → Bool
is_blank_line line = list_all is_blank (before_end line)
