-- Which number goes out for the one that the program stored: that one, or by the tag's key `fit` the next one that its point can say.
-- SunSpec Device Information Model Specification, points and scale factors.
use Rattle.std.specs.Prelude.{◌≡◌, ℕ, List, ℤ, ◌≤ℤ◌, Option, Ok, Err}
use Rattle.point_types.specs.declared.encoding.Unencodable.{Unencodable}
use Rattle.point_types.specs.Encoding.{IsEncoding}
use Rattle.site_model.specs.declared.fit.Fit.{Fit}
use Rattle.site_model.specs.declared.fit.Fit.TheVariants as fits
use Rattle.site_model.specs.declared.tag.SiteTag.{SiteTag}

-- words of the tag's point stand for a number of the tag's range, by the factor that the device gave (none where it is absent)
pub record CanSay (t : SiteTag) (factor : Option ℤ) (n : ℤ) : Type 0 where
  pub words : List ℕ
  pub encoded : IsEncoding t.point n t.exponent factor (Ok words)
  pub low : t.low ≤ℤ n
  pub high : n ≤ℤ t.high

-- the greatest such number at or below v
pub record IsNextBelow (t : SiteTag) (factor : Option ℤ) (v n : ℤ) : Type 0 where
  pub said : CanSay t factor n
  pub below : n ≤ℤ v
  pub greatest : (m : ℤ) → CanSay t factor m → m ≤ℤ v → m ≤ℤ n

-- the least such number at or above v
pub record IsNextAbove (t : SiteTag) (factor : Option ℤ) (v n : ℤ) : Type 0 where
  pub said : CanSay t factor n
  pub above : v ≤ℤ n
  pub least : (m : ℤ) → CanSay t factor m → v ≤ℤ m → n ≤ℤ m

-- the number that goes out for v
abbrev pub GoesOutBy : Fit → SiteTag → Option ℤ → (v n : ℤ) → Type 0
GoesOutBy fits.Exact t factor v n = CanSay t factor n × (n ≡ v)
GoesOutBy fits.Down t factor v n = IsNextBelow t factor v n
GoesOutBy fits.Up t factor v n = IsNextAbove t factor v n

abbrev pub GoesOut : SiteTag → Option ℤ → (v n : ℤ) → Type 0
GoesOut t factor v n = GoesOutBy t.fit t factor v n

-- for v no number goes out, for this cause: v has no words, and by the key no other number goes out in its place
pub record NoneGoesOut (t : SiteTag) (factor : Option ℤ) (v : ℤ) (cause : Unencodable) : Type 0 where
  pub unsaid : IsEncoding t.point v t.exponent factor (Err cause)
  pub none : (n : ℤ) → GoesOut t factor v n → ⊥
