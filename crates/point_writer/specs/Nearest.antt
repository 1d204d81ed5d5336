-- inner: the greatest number at or below another one that raw numbers from `least` to `most` say by a scale factor s, in units of 10^e.
-- SunSpec Device Information Model Specification, scale factors.
use Rattle.std.specs.Prelude.{◌≡◌, ◌^◌, ℤ, pos, neg_ℤ, ◌*ℤ◌, ◌≤ℤ◌, ◌<ℤ◌, Option, Some, None}
use Rattle.point_types.specs.Reading.{IsScaled, power_of}
use Rattle.site_model.specs.declared.fit.Fit.{Fit}
use Rattle.site_model.specs.declared.fit.Fit.TheVariants as fits
use Rattle.site_model.specs.declared.tag.SiteTag.{SiteTag}
use Rattle.point_writer.specs.Fitting.{CanSay}

-- no raw number lies below it
abbrev pub IsDeep : ℤ → Type 0
IsDeep n = n <ℤ neg_ℤ (pos (2 ^ 64))

-- the greatest raw number that is at most `most`, and whose value isn't above v * 10^e
pub record IsRawBelow (v e s most raw : ℤ) : Type 0 where
  pub within : raw ≤ℤ most
  pub below : (raw *ℤ power_of s) ≤ℤ (v *ℤ power_of e)
  pub greatest : (q : ℤ) → q ≤ℤ most → (q *ℤ power_of s) ≤ℤ (v *ℤ power_of e) → q ≤ℤ raw

abbrev pub IsRawFor : (v e s most : ℤ) → Option ℤ → Type 0
IsRawFor v e s most None = (q : ℤ) → (q *ℤ power_of s) ≤ℤ (v *ℤ power_of e) → IsDeep q
IsRawFor v e s most (Some raw) = IsRawBelow v e s most raw

-- a raw number of the range says m, which isn't above v
pub record IsOneBelow (v e s least most m : ℤ) : Type 0 where
  pub raw : ℤ
  pub says : IsScaled raw s e m
  pub low : least ≤ℤ raw
  pub high : raw ≤ℤ most
  pub below : m ≤ℤ v

-- n is the greatest one, where there is one at all
pub record IsBound (v e s least most n : ℤ) : Type 0 where
  pub below : n ≤ℤ v
  pub greatest : (m : ℤ) → IsOneBelow v e s least most m → m ≤ℤ n
  pub said : (m : ℤ) → IsOneBelow v e s least most m → IsOneBelow v e s least most n

abbrev pub IsBoundFor : (v e s least most : ℤ) → Option ℤ → Type 0
IsBoundFor v e s least most None = (m : ℤ) → IsOneBelow v e s least most m → IsDeep m
IsBoundFor v e s least most (Some n) = IsBound v e s least most n

-- of the numbers in the tag's range that its point can say, n is the next one at or below v, where there is one at all
pub record IsBelowFor (t : SiteTag) (factor : Option ℤ) (v n : ℤ) : Type 0 where
  pub low : t.low ≤ℤ n
  pub below : n ≤ℤ v
  pub greatest : (m : ℤ) → CanSay t factor m → m ≤ℤ v → m ≤ℤ n
  pub said : (m : ℤ) → CanSay t factor m → m ≤ℤ v → CanSay t factor n

abbrev pub IsBelow : SiteTag → Option ℤ → ℤ → Option ℤ → Type 0
IsBelow t factor v None = (m : ℤ) → CanSay t factor m → m ≤ℤ v → ⊥
IsBelow t factor v (Some n) = IsBelowFor t factor v n

-- the same at or above v
pub record IsAboveFor (t : SiteTag) (factor : Option ℤ) (v n : ℤ) : Type 0 where
  pub high : n ≤ℤ t.high
  pub above : v ≤ℤ n
  pub least : (m : ℤ) → CanSay t factor m → v ≤ℤ m → n ≤ℤ m
  pub said : (m : ℤ) → CanSay t factor m → v ≤ℤ m → CanSay t factor n

abbrev pub IsAbove : SiteTag → Option ℤ → ℤ → Option ℤ → Type 0
IsAbove t factor v None = (m : ℤ) → CanSay t factor m → v ≤ℤ m → ⊥
IsAbove t factor v (Some n) = IsAboveFor t factor v n

-- the next number in the direction of the key
abbrev pub IsNext : Fit → SiteTag → Option ℤ → ℤ → Option ℤ → Type 0
IsNext fits.Exact t factor v next = next ≡ None
IsNext fits.Down t factor v next = IsBelow t factor v next
IsNext fits.Up t factor v next = IsAbove t factor v next
