-- What is met at a tag's point: its raw number, and what scales it.
-- SunSpec Device Information Model Specification, points and scale factors.
use Rattle.std.specs.Prelude.{ℕ, List, ℤ, Option, option_and_then, option_map}
use Rattle.point_types.specs.Point.{size_of, value_of}
use Rattle.site_model.specs.Readings.{registers_at, scale_for}
use Rattle.site_model.specs.declared.tag.SiteTag.{SiteTag}
use Rattle.service_alarms.specs.declared.met.MetNumber.{MetNumber}

abbrev pub met_by : ℤ → Option ℤ → MetNumber
met_by raw factor = record { raw = raw; factor = factor }

-- the raw number of the point's registers as its kind reads them, and the factor as it stands in the words of the block;
-- none where one of them lies past the words, or the point is unimplemented
abbrev pub met_in : SiteTag → List ℕ → Option MetNumber
met_in t words =
    option_and_then (λ registers.
    option_and_then (λ raw.
    option_map (met_by raw) (scale_for t.bit words t.sf))
    (value_of t.point registers))
    (registers_at words t.offset (size_of t.point))

abbrev pub met_of : SiteTag → Option (List ℕ) → Option MetNumber
met_of t block = option_and_then (met_in t) block
