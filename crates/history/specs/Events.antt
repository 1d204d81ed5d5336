-- Which lines are kept: the last 256 that were told, each in the room that there is for one. No standard says it; it is this
-- project's.
use Rattle.std.specs.Prelude.{◌≡◌, ◌⊎◌, ℕ, ◌+◌, ◌<◌, ◌≤◌, List, ◌++◌, length, take, codes, string_bytes}
use Rattle.std.specs.Str.{IsCharBoundary}
use Rattle.std.specs.String.{string_capacity}
use Rattle.history.specs.declared.event.Event.{Event}

-- a line, after its number and its time
pub record Line : Type 0 where
  pub number : ℕ
  pub time : List ℕ
  pub text : List ℕ

abbrev pub line_of : Event → Line
line_of event = record { number = event.number; time = string_bytes event.time; text = string_bytes event.text }

-- a text that is too long for its room begins as it does, as far as whole letters and two dots have room there
pub record IsCut (room : ℕ) (text shown : List ℕ) (count : ℕ) : Type 0 where
  pub fits : count + 2 ≤ room
  pub whole : IsCharBoundary text count
  pub longest : (more : ℕ) → count < more → more + 2 ≤ room → IsCharBoundary text more → ⊥
  pub is : shown ≡ take count text ++ codes ".."

-- a text is shown so in a room for so many bytes
abbrev pub IsShownIn : (room : ℕ) → (text shown : List ℕ) → Type 0
IsShownIn room text shown = ((length text ≤ room) × (shown ≡ text))
    ⊎ ((room < length text) × (count : ℕ) × IsCut room text shown count)

-- a line of this number, this time and this text
abbrev pub IsLineOf : (number : ℕ) → (time text : List ℕ) → Line → Type 0
IsLineOf number time text line = (line.number ≡ number) × IsShownIn 24 time line.time × IsShownIn 256 text line.text

-- there is room for each time and each line
abbrev pub HasRoom : Event → Type 0
HasRoom event = (24 ≤ string_capacity event.time) × (256 ≤ string_capacity event.text)
