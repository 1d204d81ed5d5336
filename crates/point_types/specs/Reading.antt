-- Readings: what a scaled point is as a whole number at a tag's exponent, or why it is none.
-- SunSpec Device Information Model Specification, scale factors.
use Rattle.std.specs.Prelude.{◌≡◌, ◌^◌, ◌⊎◌, ℤ, pos, neg_ℤ, ◌+ℤ◌, ◌*ℤ◌, ◌≤ℤ◌, ◌<ℤ◌, unsigned_abs, Option, Some, None, if◌then◌else◌}
use Rattle.point_types.specs.declared.reading.Cause.TheVariants as cause
use Rattle.point_types.specs.declared.reading.Reading.{Reading}
use Rattle.point_types.specs.declared.reading.Reading.TheVariants as reading
use Rattle.point_types.specs.Value.{is_within}

-- a power of ten that a scale factor or a tag may have
abbrev pub IsExponent : ℤ → Type 0
IsExponent e = (neg_ℤ (pos 10) ≤ℤ e) × (e ≤ℤ pos 10)

-- a scale factor that can be used
abbrev pub factor_of : Option ℤ → Option ℤ
factor_of None = None
factor_of (Some s) = if is_within (neg_ℤ (pos 10)) (pos 10) s then Some s else None

-- 10^(s+10), so that each power from 10^-10 on is whole
abbrev pub power_of : ℤ → ℤ
power_of s = pos (10 ^ unsigned_abs (s +ℤ pos 10))

-- n * 10^e is raw * 10^s
abbrev pub IsScaled : (raw s e n : ℤ) → Type 0
IsScaled raw s e n = (raw *ℤ power_of s) ≡ (n *ℤ power_of e)

-- n is the greatest whole number for which n * 10^e is at most raw * 10^s
pub record IsScaledDown (raw s e n : ℤ) : Type 0 where
  pub below : (n *ℤ power_of e) ≤ℤ (raw *ℤ power_of s)
  pub greatest : (m : ℤ) → (m *ℤ power_of e) ≤ℤ (raw *ℤ power_of s) → m ≤ℤ n

-- the reading of what is the number n where Is n: the first cause that holds, or the number
abbrev pub Reads : (ℤ → Type 0) → (low high : ℤ) → Reading → Type 0
Reads Is low high (reading.Value n) = Is n × (low ≤ℤ n) × (n ≤ℤ high)
Reads Is low high (reading.Absent cause.Inexact) = (n : ℤ) → Is n → ⊥
Reads Is low high (reading.Absent cause.OutOfRange) = (n : ℤ) × Is n × ((n <ℤ low) ⊎ (high <ℤ n))
Reads Is low high other = ⊥

abbrev pub ReadsBy : (Is : (raw s e n : ℤ) → Type 0) → ℤ → Option ℤ → (exponent low high : ℤ) → Reading → Type 0
ReadsBy Is raw None exponent low high r = r ≡ reading.Absent cause.BadScale
ReadsBy Is raw (Some s) exponent low high r = Reads (Is raw s exponent) low high r

-- the reading of a point with this raw number and this scale factor (none where it is absent)
abbrev pub IsReading : ℤ → Option ℤ → (exponent low high : ℤ) → Reading → Type 0
IsReading raw factor exponent low high r = ReadsBy IsScaled raw (factor_of factor) exponent low high r

-- the same where the number is rounded down
abbrev pub IsReadingDown : ℤ → Option ℤ → (exponent low high : ℤ) → Reading → Type 0
IsReadingDown raw factor exponent low high r = ReadsBy IsScaledDown raw (factor_of factor) exponent low high r
