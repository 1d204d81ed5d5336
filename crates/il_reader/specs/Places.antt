-- Where a text is at fault.
-- IEC 61131-3 edition 2, 3.2 leaves diagnostics open.
use Rattle.std.specs.Prelude.{◌≡◌, ◌-◌, ◌<◌, ◌≤◌, ℕ, suc, List, length, take, Ok}
use Rattle.il_reader.specs.declared.place.FaultPlace.{FaultPlace}
use Rattle.il_reader.specs.declared.tree.Program.{Program}
use Rattle.il_reader.specs.Lexemes.{line_ends}
use Rattle.il_reader.specs.Reading.{reading}

-- the line in which a byte of a text stands: one more than the line ends before it
abbrev pub line_of : List ℕ → ℕ → ℕ
line_of text k = suc (line_ends (take k text))

-- these bytes of a text stand in a line; where there are none, the line is that of the byte before which they would stand
pub record AreInLine (text : List ℕ) (line at behind : ℕ) : Type 0 where
  pub ordered : at ≤ behind
  pub within : behind ≤ length text
  pub begins : line_of text at ≡ line
  pub ends : at < behind → line_of text (behind - 1) ≡ line

-- what is at fault stands in the line at fault
abbrev pub IsInItsLine : List ℕ → FaultPlace → Type 0
IsInItsLine text place = AreInLine text place.fault.line place.at place.behind

-- the text is a program
abbrev pub IsRead : List ℕ → Type 0
IsRead text = (p : Program) × (reading text ≡ Ok p)
