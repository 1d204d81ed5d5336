-- The kinds of points: their registers, and the value that a point's words stand for.
-- SunSpec Device Information Model Specification, the table of types.
use Rattle.std.specs.Prelude.{◌≡◌, ℕ, ◌+◌, ◌*◌, ◌^◌, ◌<◌, Bool, ◌==◌, nat_le, List, [], ◌∷◌, length, All, ℤ, pos, ◌-ℤ◌, Option, Some, None, if◌then◌else◌, option_and_then}
use Rattle.std.specs.Option.{option_map_or}
use Rattle.point_types.specs.declared.form.Form.{Form}
use Rattle.point_types.specs.declared.form.Form.TheVariants as form
use Rattle.point_types.specs.declared.kind.Kind.{Kind}
use Rattle.point_types.specs.declared.kind.Kind.TheVariants as kind

-- a numeric kind's registers, how their number is read, and the number of the unimplemented words
pub record Row : Type 0 where
  pub registers : ℕ
  pub form : Form
  pub unimplemented : ℕ

abbrev pub row : ℕ → Form → ℕ → Row
row k f u = record { registers = k; form = f; unimplemented = u }

-- the table of kinds; a string isn't numeric
abbrev pub row_of : Kind → Option Row
row_of kind.Int16 = Some (row 1 form.Signed 0x8000)
row_of kind.Uint16 = Some (row 1 form.Unsigned 0xFFFF)
row_of kind.Acc16 = Some (row 1 form.Unsigned 0)
row_of kind.Enum16 = Some (row 1 form.Unsigned 0xFFFF)
row_of kind.Bitfield16 = Some (row 1 form.Flags 0xFFFF)
row_of kind.Sunssf = Some (row 1 form.Signed 0x8000)
row_of kind.Pad = Some (row 1 form.Unsigned 0x8000)
row_of kind.Int32 = Some (row 2 form.Signed 0x8000_0000)
row_of kind.Uint32 = Some (row 2 form.Unsigned 0xFFFF_FFFF)
row_of kind.Enum32 = Some (row 2 form.Unsigned 0xFFFF_FFFF)
row_of kind.Bitfield32 = Some (row 2 form.Flags 0xFFFF_FFFF)
row_of kind.Acc32 = Some (row 2 form.Unsigned 0)
row_of kind.Int64 = Some (row 4 form.Signed 0x8000_0000_0000_0000)
row_of kind.Uint64 = Some (row 4 form.Unsigned 0xFFFF_FFFF_FFFF_FFFF)
row_of kind.Acc64 = Some (row 4 form.Unsigned 0)
row_of kind.String = None

-- the registers of a kind; a string has those of its point, one at least
abbrev pub size_of : Kind → ℕ
size_of k = option_map_or (λ r. r.registers) (row_of k) 1

-- the number of some words, the most significant first
abbrev pub number_of : List ℕ → ℕ
number_of [] = 0
number_of (w ∷ ws) = w * 65536 ^ length ws + number_of ws

-- the top bit of k registers is set in their number n
abbrev pub has_top_bit : ℕ → ℕ → Bool
has_top_bit k n = nat_le (65536 ^ k) (2 * n)

-- what a number in k registers is read as: two's complement; as it stands; as bits, of which the top one is to be clear
abbrev pub read_as : Form → ℕ → ℕ → Option ℤ
read_as form.Signed k n = Some (if has_top_bit k n then pos n -ℤ pos (65536 ^ k) else pos n)
read_as form.Unsigned k n = Some (pos n)
read_as form.Flags k n = if has_top_bit k n then None else Some (pos n)

-- the value of a number in the registers: none where its words are the unimplemented ones
abbrev pub meaning_of : Row → ℕ → Option ℤ
meaning_of r n = if n == r.unimplemented then None else read_as r.form r.registers n

-- the value of a point; a string has none
abbrev pub value_of : Kind → List ℕ → Option ℤ
value_of k ws = option_and_then (λ r. meaning_of r (number_of ws)) (row_of k)

-- the words are as many as the kind has, of 16 bits each, and their value is v
pub record StandsFor (k : Kind) (ws : List ℕ) (v : ℤ) : Type 0 where
  pub sized : length ws ≡ size_of k
  pub words : All (λ w. w < 65536) ws
  pub value : value_of k ws ≡ Some v

-- the same by a row of the table
pub record IsSpelling (r : Row) (ws : List ℕ) (v : ℤ) : Type 0 where
  pub sized : length ws ≡ r.registers
  pub words : All (λ w. w < 65536) ws
  pub value : meaning_of r (number_of ws) ≡ Some v

abbrev pub HasNoSpelling : Row → ℤ → Type 0
HasNoSpelling r v = (ws : List ℕ) → IsSpelling r ws v → ⊥
