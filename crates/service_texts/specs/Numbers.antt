-- What number of a tag the words of its point would be (SunSpec Device Information Model Specification, scale factors).
use Rattle.std.specs.Prelude.{◌≡◌, ℕ, ◌==◌, Bool, ℤ, List, position, slice_get, Option, Some, option_and_then}
use Rattle.model_defs.specs.declared.model.ModelDef.{ModelDef}
use Rattle.model_defs.specs.declared.point.Point.{Point}
use Rattle.gateway.specs.served.Points.{served_factor}
use Rattle.point_types.specs.Point.{value_of}
use Rattle.point_types.specs.Reading.{IsScaled, factor_of}
use Rattle.site_model.specs.declared.served.Served.{Served}
use Rattle.site_model.specs.declared.site.Site.{Site}
use Rattle.site_model.specs.declared.tag.SiteTag.{SiteTag}

abbrev pub is_model : ℕ → ModelDef → Bool
is_model id model = model.id == id

abbrev pub is_at : ℕ → Point → Bool
is_at offset point = point.offset == offset

-- the factor by which the point of a model is served that stands so many registers after the model's ID
abbrev pub factor_in : List Served → (id offset : ℕ) → ModelDef → Option ℤ
factor_in served id offset model = option_and_then (λ i. option_and_then (λ point. served_factor served id point.sf) (slice_get model.points i)) (position (is_at offset) model.points)

-- the factor by which the point of a tag of the gateway's own is served
abbrev pub tag_factor : Site → SiteTag → Option ℤ
tag_factor site tag = option_and_then (λ n. option_and_then (factor_in site.served tag.model tag.offset) (slice_get site.models n)) (position (is_model tag.model) site.models)

-- words are a number of a tag by a factor, whatever its range
abbrev pub IsNumberBy : SiteTag → Option ℤ → List ℕ → ℤ → Type 0
IsNumberBy tag factor words number = (raw power : ℤ) × (value_of tag.point words ≡ Some raw) × (factor_of factor ≡ Some power) × IsScaled raw power tag.exponent number
