-- Encoding: the words of a kind that read back as a number through a scale factor, or why there are none.
-- SunSpec Device Information Model Specification, the table of types and scale factors.
use Rattle.std.specs.Prelude.{◌≡◌, ℕ, List, ℤ, Option, Some, None, Result, Ok, Err}
use Rattle.point_types.specs.declared.kind.Kind.{Kind}
use Rattle.point_types.specs.declared.encoding.Unencodable.{Unencodable}
use Rattle.point_types.specs.declared.encoding.Unencodable.TheVariants as unencodable
use Rattle.point_types.specs.Point.{StandsFor}
use Rattle.point_types.specs.Reading.{IsScaled, factor_of}

-- no words of the kind stand for this raw number
abbrev pub IsOutOfType : Kind → ℤ → Type 0
IsOutOfType k raw = (ws : List ℕ) → StandsFor k ws raw → ⊥

-- v * 10^e, in words of the kind that are scaled by 10^s: the first fault that holds, or the words
abbrev pub Encodes : Kind → (v s e : ℤ) → Result (List ℕ) Unencodable → Type 0
Encodes k v s e (Ok ws) = (raw : ℤ) × StandsFor k ws raw × IsScaled raw s e v
Encodes k v s e (Err unencodable.BadScale) = ⊥
Encodes k v s e (Err unencodable.Inexact) = (raw : ℤ) → IsScaled raw s e v → ⊥
Encodes k v s e (Err unencodable.OutOfType) = (raw : ℤ) × IsScaled raw s e v × IsOutOfType k raw

abbrev pub EncodesBy : Kind → ℤ → (exponent : ℤ) → Option ℤ → Result (List ℕ) Unencodable → Type 0
EncodesBy k v exponent None r = r ≡ Err unencodable.BadScale
EncodesBy k v exponent (Some s) r = Encodes k v s exponent r

-- the encoding of v * 10^exponent by a scale factor (none where it is absent)
abbrev pub IsEncoding : Kind → ℤ → (exponent : ℤ) → Option ℤ → Result (List ℕ) Unencodable → Type 0
IsEncoding k v exponent factor r = EncodesBy k v exponent (factor_of factor) r
