-- What is proved of reading.
-- IEC 61131-3 edition 2, 3.2 instruction list.
use Rattle.std.specs.Prelude.{◌≡◌, ◌↔◌, ◌≤◌, ℕ, zero, suc, List, [], ◌∷◌, ◌++◌, length, Ok, if◌then◌else◌, nat_eq}
use Rattle.il_reader.specs.declared.fault.ReadFault.{ReadFault}
use Rattle.il_reader.specs.declared.tree.Program.{Program}
use Rattle.il_reader.specs.Grammar.{IsProgramText}
use Rattle.il_reader.specs.Lexemes.{Placed, AreTokens, line_ends}
use Rattle.il_reader.specs.Limit.{most_bytes}
use Rattle.il_reader.specs.Reading.{AtFault, TooSoon, outcome, reading}
use Rattle.il_reader.specs.Scanning.{Tokens, tokens_of}

-- The tokens that are found byte by byte are those that a text's pieces spell.
abbrev pub TokensAreLexemes : Type 0
TokensAreLexemes = (text : List ℕ) (ts : List Placed) → (tokens_of text ≡ Tokens ts) ↔ AreTokens text ts

-- A text is read exactly where it spells a program and keeps to the limit on its size, and to that program.
abbrev pub ReadingIsExact : Type 0
ReadingIsExact = (text : List ℕ) (p : Program) → (reading text ≡ Ok p) ↔ (IsProgramText text p × (length text ≤ most_bytes))

abbrev pub AtMostOneProgram : Type 0
AtMostOneProgram = (text : List ℕ) (p q : Program) → IsProgramText text p → IsProgramText text q → p ≡ q

-- the first k lines of a text, with their ends
abbrev pub lines_up_to : ℕ → List ℕ → List ℕ
lines_up_to zero bs = []
lines_up_to (suc k) [] = []
lines_up_to (suc k) (b ∷ bs) = b ∷ (if nat_eq b 10 then lines_up_to k bs else lines_up_to (suc k) bs)

-- some program text begins with these bytes
abbrev pub Begins : List ℕ → Type 0
Begins a = (rest : List ℕ) × (p : Program) × IsProgramText (a ++ rest) p

-- The line at fault: the lines before it begin a program text, and with it they begin none.
abbrev pub FaultIsInTheFirstLine : Type 0
FaultIsInTheFirstLine = (text : List ℕ) (f : ReadFault) → outcome text ≡ AtFault f → (k : ℕ) × (f.line ≡ suc k) × Begins (lines_up_to k text) × ((rest : List ℕ) (p : Program) → IsProgramText (lines_up_to f.line text ++ rest) p → ⊥)

-- the line of the last byte, of a text whose first byte stands in line n
abbrev pub last_line : ℕ → List ℕ → ℕ
last_line n [] = n
last_line n (b ∷ []) = n
last_line n (b ∷ c ∷ bs) = last_line (if nat_eq b 10 then suc n else n) (c ∷ bs)

-- Where a text ends too soon, the line is that of its last byte, and its whole lines begin a program text.
abbrev pub EarlyEndIsInTheLastLine : Type 0
EarlyEndIsInTheLastLine = (text : List ℕ) (f : ReadFault) → outcome text ≡ TooSoon f → (f.line ≡ last_line 1 text) × Begins (lines_up_to (line_ends text) text)
