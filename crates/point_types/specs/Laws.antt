-- What is proved of the definitions of points, readings and encodings.
-- SunSpec Device Information Model Specification, the table of types and scale factors.
use Rattle.std.specs.Prelude.{◌≡◌, ◌↔◌, ◌^◌, List, ℕ, ℤ, pos, neg_ℤ, ◌+ℤ◌, ◌≤ℤ◌, ◌<ℤ◌, ◌≢◌, Option, Some, Result, Ok, IsSomeAnd}
use Rattle.point_types.specs.declared.form.Form.{Form}
use Rattle.point_types.specs.declared.form.Form.TheVariants as form
use Rattle.point_types.specs.declared.kind.Kind.{Kind}
use Rattle.point_types.specs.declared.encoding.Unencodable.{Unencodable}
use Rattle.point_types.specs.declared.reading.Cause.TheVariants as cause
use Rattle.point_types.specs.declared.reading.Reading.{Reading}
use Rattle.point_types.specs.declared.reading.Reading.TheVariants as reading
use Rattle.point_types.specs.Point.{row_of, read_as, value_of, StandsFor}
use Rattle.point_types.specs.Reading.{IsReading, IsReadingDown}
use Rattle.point_types.specs.Encoding.{IsEncoding}

-- a value has one spelling at most
abbrev pub AtMostOneSpelling : Type 0
AtMostOneSpelling = (k : Kind) (ws us : List ℕ) (v : ℤ) → StandsFor k ws v → StandsFor k us v → ws ≡ us

-- the numbers of k registers in a form, and of them those that aren't the unimplemented one
abbrev pub IsInForm : Form → ℕ → ℤ → Type 0
IsInForm form.Signed k v = (neg_ℤ (pos (65536 ^ k)) ≤ℤ (v +ℤ v)) × ((v +ℤ v) <ℤ pos (65536 ^ k))
IsInForm form.Unsigned k v = (pos 0 ≤ℤ v) × (v <ℤ pos (65536 ^ k))
IsInForm form.Flags k v = (pos 0 ≤ℤ v) × ((v +ℤ v) <ℤ pos (65536 ^ k))

abbrev pub CanHold : Kind → ℤ → Type 0
CanHold k v = IsSomeAnd (row_of k) (λ r. IsInForm r.form r.registers v × (read_as r.form r.registers r.unimplemented ≢ Some v))

-- each number that a kind can hold has words, and no other has
abbrev pub KindsHoldTheirNumbers : Type 0
KindsHoldTheirNumbers = (k : Kind) (v : ℤ) → CanHold k v ↔ ((ws : List ℕ) × StandsFor k ws v)

-- the round trip: each number that a kind can hold is encoded, and its words are read as it
abbrev pub RoundTrip : Type 0
RoundTrip = (k : Kind) (v : ℤ) (r : Result (List ℕ) Unencodable) → CanHold k v → IsEncoding k v (pos 0) (Some (pos 0)) r → (ws : List ℕ) × (r ≡ Ok ws) × (value_of k ws ≡ Some v)

-- each point has one reading
abbrev pub AtMostOneReading : Type 0
AtMostOneReading = (raw : ℤ) (factor : Option ℤ) (exponent low high : ℤ) (r t : Reading) → IsReading raw factor exponent low high r → IsReading raw factor exponent low high t → r ≡ t

abbrev pub AtLeastOneReading : Type 0
AtLeastOneReading = (raw : ℤ) (factor : Option ℤ) (exponent low high : ℤ) → (r : Reading) × IsReading raw factor exponent low high r

-- the same where it is rounded down, and then Inexact doesn't occur
abbrev pub AtMostOneReadingDown : Type 0
AtMostOneReadingDown = (raw : ℤ) (factor : Option ℤ) (exponent low high : ℤ) (r t : Reading) → IsReadingDown raw factor exponent low high r → IsReadingDown raw factor exponent low high t → r ≡ t

abbrev pub AtLeastOneReadingDown : Type 0
AtLeastOneReadingDown = (raw : ℤ) (factor : Option ℤ) (exponent low high : ℤ) → (r : Reading) × IsReadingDown raw factor exponent low high r

abbrev pub DownIsNeverInexact : Type 0
DownIsNeverInexact = (raw : ℤ) (factor : Option ℤ) (exponent low high : ℤ) → IsReadingDown raw factor exponent low high (reading.Absent cause.Inexact) → ⊥

-- the words of an encoding are those that have the number as their reading
abbrev pub EncodingsReadBack : Type 0
EncodingsReadBack = (k : Kind) (v exponent low high : ℤ) (factor : Option ℤ) (ws : List ℕ) → low ≤ℤ v → v ≤ℤ high → IsEncoding k v exponent factor (Ok ws) ↔ ((raw : ℤ) × StandsFor k ws raw × IsReading raw factor exponent low high (reading.Value v))

-- a number has one encoding at most
abbrev pub AtMostOneEncoding : Type 0
AtMostOneEncoding = (k : Kind) (v exponent : ℤ) (factor : Option ℤ) (r t : Result (List ℕ) Unencodable) → IsEncoding k v exponent factor r → IsEncoding k v exponent factor t → r ≡ t
