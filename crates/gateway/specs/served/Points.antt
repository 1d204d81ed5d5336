-- The points of the gateway's own map, in the order of their registers: the mark, those of its models, the end model.
-- SunSpec Device Information Model Specification, device modbus maps, models and points.
use Rattle.std.specs.Prelude.{ℕ, zero, suc, ◌+◌, nat_eq, Bool, ◌&&◌, List, [], ◌∷◌, ◌++◌, sum_by, slice_get, ℤ, pos, Option, Some, None, option_and_then}
use Rattle.std.specs.List.{flat_map, position}
use Rattle.point_types.specs.declared.kind.Kind.{Kind}
use Rattle.point_types.specs.declared.kind.Kind.TheVariants as kinds
use Rattle.point_types.specs.Point.{size_of}
use Rattle.point_types.specs.Reading.{factor_of}
use Rattle.model_defs.specs.declared.model.ModelDef.{ModelDef}
use Rattle.model_defs.specs.declared.point.Point.{Point}
use Rattle.model_defs.specs.declared.point.Sf.{Sf}
use Rattle.model_defs.specs.declared.point.Sf.TheVariants as factors
use Rattle.site_model.specs.declared.served.Served.{Served}
use Rattle.site_model.specs.declared.served.Source.{Source}
use Rattle.site_model.specs.declared.served.Source.TheVariants as given
use Rattle.site_model.specs.declared.site.Site.{Site}
use Rattle.site_model.specs.declared.tag.SiteTag.{SiteTag}
use Rattle.site_model.specs.Serving.{is_entry_of}
use Rattle.site_model.specs.Tagging.{is_own}
use Rattle.gateway.specs.declared.served.point.OwnPoint.{OwnPoint}
use Rattle.gateway.specs.declared.served.point.OwnPoint.TheVariants as own
use Rattle.gateway.specs.declared.served.point.PointSource.{PointSource as From}
use Rattle.gateway.specs.declared.served.point.PointSource.TheVariants as source

-- ---- what a point of a model is served with

-- the entry of the site file for a point of a model, by its number
abbrev pub entry_for : List Served → (model i : ℕ) → Option ℕ
entry_for served model i = position (is_entry_of model i) served

abbrev pub is_tag_at : (model offset : ℕ) → SiteTag → Bool
is_tag_at model offset t = is_own t.access && (nat_eq t.model model && nat_eq t.offset offset)

-- the `set` or `site` tag of a point of a model, by its number
abbrev pub tag_for : List SiteTag → (model offset : ℕ) → Option ℕ
tag_for tags model offset = position (is_tag_at model offset) tags

abbrev pub first_of : (entry tag : Option ℕ) → From
first_of (Some n) tag = source.Entry n
first_of None (Some n) = source.Tag n
first_of None None = source.Nothing

-- ---- its scale factor

abbrev pub raw_in : Source → Option ℤ
raw_in (given.Raw n) = Some n
raw_in other = None

-- the raw number that the site file gives a point
abbrev pub raw_for : List Served → (model i : ℕ) → Option ℤ
raw_for served model i = option_and_then (λ n. option_and_then (λ s. raw_in s.source) (slice_get served n)) (entry_for served model i)

-- the served factor: 0, a fixed one, or the raw number of the factor's own point, where that is one
abbrev pub served_factor : List Served → (model : ℕ) → Sf → Option ℤ
served_factor served model factors.None = Some (pos 0)
served_factor served model (factors.Fixed n) = Some n
served_factor served model (factors.At j) = factor_of (raw_for served model j)

-- ---- the points

module _ (served : List Served) (tags : List SiteTag) (m : ModelDef) where
  abbrev pub value_point : ℕ → Point → Kind → OwnPoint
  value_point i p kinds.String = own.Text p.size (entry_for served m.id i)
  value_point i p kind = own.Number kind (served_factor served m.id p.sf) (first_of (entry_for served m.id i) (tag_for tags m.id p.offset))

  -- the first two hold the model's ID and its length
  abbrev pub own_point : ℕ → Point → OwnPoint
  own_point zero p = own.Word m.id
  own_point (suc zero) p = own.Word m.length
  own_point i p = value_point i p p.kind

  -- of points that are numbered from i on
  abbrev pub points_from : ℕ → List Point → List OwnPoint
  points_from i [] = []
  points_from i (p ∷ ps) = own_point i p ∷ points_from (i + 1) ps

abbrev pub model_points : List Served → List SiteTag → ModelDef → List OwnPoint
model_points served tags m = points_from served tags m 0 m.points

-- "SunS"
abbrev pub mark : List OwnPoint
mark = own.Word 0x5375 ∷ own.Word 0x6E53 ∷ []

-- its ID, and length 0
abbrev pub end_model : List OwnPoint
end_model = own.Word 0xFFFF ∷ own.Word 0 ∷ []

abbrev pub own_points : Site → List OwnPoint
own_points site = mark ++ flat_map (model_points site.served site.tags) site.models ++ end_model

-- ---- their registers

abbrev pub registers_of : OwnPoint → ℕ
registers_of (own.Word w) = 1
registers_of (own.Text size entry) = size
registers_of (own.Number kind factor from) = size_of kind

abbrev pub all_registers : List OwnPoint → ℕ
all_registers points = sum_by registers_of points
