-- What sets a tag again after a restart: the request by which a client sets it alone.
-- Modbus Application Protocol V1.1b3, section 6.12; SunSpec Device Information Model Specification, points and scale factors.
use Rattle.std.specs.Prelude.{◌≡◌, ◌≤◌, ◌+◌, ℕ, ℤ, List, ◌∷◌, length, slice_get, slice_set, Some, Result, Ok}
use Rattle.point_types.specs.declared.reading.Reading.TheVariants as reading
use Rattle.point_types.specs.Point.{StandsFor}
use Rattle.point_types.specs.Reading.{IsReading}
use Rattle.modbus_frame.specs.declared.message.Request.{Request}
use Rattle.modbus_frame.specs.declared.message.Response.{Response}
use Rattle.modbus_frame.specs.declared.message.Response.TheVariants as response
use Rattle.modbus_frame.specs.declared.message.Exception.{Exception}
use Rattle.site_model.specs.declared.site.Site.{Site}
use Rattle.site_model.specs.declared.tag.SiteTag.{SiteTag}
use Rattle.gateway.specs.declared.served.point.OwnPoint.{OwnPoint}
use Rattle.gateway.specs.declared.served.point.OwnPoint.TheVariants as own
use Rattle.gateway.specs.event_core.SiteRun.{Standing, Does, setting_of, written_points}

-- Whatever is known and set: it is acknowledged, from then on the tag has this number, and nothing else changes.
abbrev pub SetsAlone : Site → ℕ → ℤ → Request → Type 0
SetsAlone site tag number asked =
    (s t : Standing) (r : Result Response Exception) → Does site s asked r t → (r ≡ Ok response.Wrote) × (t ≡ record s { sets = slice_set s.sets tag (Some number); ages = slice_set s.ages tag (Some 0) })

-- As the registers of the point these words are the number of the tag, exactly and in its range, by the served factor.
abbrev pub AreRead : OwnPoint → SiteTag → ℤ → List ℕ → Type 0
AreRead (own.Number kind factor from) t n words = (raw : ℤ) × StandsFor kind words raw × IsReading raw factor t.exponent t.low t.high (reading.Value n)
AreRead other t n words = ⊥

-- The point is the tag of this number, and these words of it set that.
pub record AreWordsFor (tags : List SiteTag) (tag : ℕ) (number : ℤ) (point : OwnPoint) (words : List ℕ) : Type 0 where
  pub own : setting_of tags point ≡ Some tag
  pub to : SiteTag
  pub found : slice_get tags tag ≡ Some to
  pub read : AreRead point to number words

-- Such a point stands at the address, where clients may write it.
pub record SetsAt (site : Site) (tag : ℕ) (number : ℤ) (addr : ℕ) (words : List ℕ) : Type 0 where
  pub point : OwnPoint
  pub behind : List OwnPoint
  pub covers : written_points site addr (length words) ≡ Some (point ∷ behind)
  pub are : AreWordsFor site.tags tag number point words

-- No words do so at any address.
abbrev pub NothingSets : Site → ℕ → ℤ → Type 0
NothingSets site tag number = (addr : ℕ) (words : List ℕ) → addr + length words ≤ 65536 → SetsAt site tag number addr words → ⊥
