-- inner: a number at another power of ten, as far as 128 bits hold it: what the readings and the encoding stand on.
-- SunSpec Device Information Model Specification, scale factors.
use Rattle.std.specs.Prelude.{◌≡◌, ◌^◌, ◌⊎◌, ℤ, pos, neg_ℤ, ◌+ℤ◌, ◌*ℤ◌, ◌≤ℤ◌, ◌<ℤ◌}
use Rattle.point_types.specs.declared.scaling.Rescaled.{Rescaled}
use Rattle.point_types.specs.declared.scaling.Rescaled.TheVariants as rescaled
use Rattle.point_types.specs.declared.reading.Reading.{Reading}
use Rattle.point_types.specs.declared.reading.Reading.TheVariants as reading
use Rattle.point_types.specs.declared.reading.Cause.TheVariants as cause
use Rattle.point_types.specs.Reading.{IsScaled, power_of}

-- the number number * 10^from lies above n * 10^to, and below (n + 1) * 10^to
pub record LiesAbove (number from to n : ℤ) : Type 0 where
  pub above : (n *ℤ power_of to) <ℤ (number *ℤ power_of from)
  pub below : (number *ℤ power_of from) <ℤ ((n +ℤ pos 1) *ℤ power_of to)

abbrev pub IsBeyond : ℤ → Type 0
IsBeyond n = (n <ℤ neg_ℤ (pos (2 ^ 127))) ⊎ (pos (2 ^ 127) ≤ℤ n)

abbrev pub IsRescaled : (number from to : ℤ) → Rescaled → Type 0
IsRescaled number from to (rescaled.Whole n) = IsScaled number from to n
IsRescaled number from to (rescaled.Between n) = LiesAbove number from to n
IsRescaled number from to rescaled.Beyond = (n : ℤ) × IsScaled number from to n × IsBeyond n

-- times a ratio
abbrev pub IsProduct : (number ratio : ℤ) → Rescaled → Type 0
IsProduct number ratio (rescaled.Whole n) = n ≡ number *ℤ ratio
IsProduct number ratio (rescaled.Between n) = ⊥
IsProduct number ratio rescaled.Beyond = IsBeyond (number *ℤ ratio)

-- divided by a ratio
abbrev pub IsQuotient : (number ratio : ℤ) → Rescaled → Type 0
IsQuotient number ratio (rescaled.Whole n) = number ≡ n *ℤ ratio
IsQuotient number ratio (rescaled.Between n) = ((n *ℤ ratio) <ℤ number) × (number <ℤ ((n +ℤ pos 1) *ℤ ratio))
IsQuotient number ratio rescaled.Beyond = ⊥

-- the number as a value, where it lies in its range
abbrev pub IsInRange : (n low high : ℤ) → Reading → Type 0
IsInRange n low high (reading.Value m) = (m ≡ n) × (low ≤ℤ n) × (n ≤ℤ high)
IsInRange n low high r = (r ≡ reading.Absent cause.OutOfRange) × ((n <ℤ low) ⊎ (high <ℤ n))
