-- The number that goes out for an output in place of the one that the program stored.
-- SunSpec Device Information Model Specification, points and scale factors.
use Rattle.std.specs.Prelude.{◌≡◌, ℕ, ℤ, ◌≤ℤ◌, Option, Some, slice_get}
use Rattle.gateway.specs.event_core.Core.{Gateway}
use Rattle.site_model.specs.Readings.{known_at}
use Rattle.site_model.specs.declared.tag.SiteTag.{SiteTag}
use Rattle.point_writer.specs.Fitting.{GoesOut}
use Rattle.point_writer.specs.SetPoint.{factor_of}

-- by the factor of the block that was known at the last scan
pub record IsFitted (g : Gateway) (i : ℕ) (n : ℤ) : Type 0 where
  pub number : ℕ
  pub output : slice_get g.site.outs i ≡ Some number
  pub tag : SiteTag
  pub named : slice_get g.site.tags number ≡ Some tag
  pub stored : ℤ
  pub is_stored : known_at (g.standing.last).outputs number ≡ Some stored
  pub goes : GoesOut tag (factor_of g.maps g.site.wants (g.standing.last).blocks tag) stored n
  pub other : n ≡ stored → ⊥

-- what the program stored goes out itself, or nothing does
abbrev pub NoneIsFitted : Gateway → ℕ → Type 0
NoneIsFitted g i = (number : ℕ) (t : SiteTag) (stored n : ℤ) → slice_get g.site.outs i ≡ Some number → slice_get g.site.tags number ≡ Some t
    → known_at (g.standing.last).outputs number ≡ Some stored → t.low ≤ℤ stored → stored ≤ℤ t.high
    → GoesOut t (factor_of g.maps g.site.wants (g.standing.last).blocks t) stored n → n ≡ stored
