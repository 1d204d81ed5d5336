-- The points of the gateway's own map with their addresses, and what each is of (SunSpec Device Information Model Specification,
-- device modbus maps; Modbus Application Protocol V1.1b3, section 4.4: the first register has the address 0).
use Rattle.std.specs.Prelude.{◌≡◌, ℕ, ◌+◌, ◌-◌, ◌^◌, min, List, [], ◌∷◌, ◌++◌, Some}
use Rattle.model_defs.specs.declared.model.ModelDef.{ModelDef}
use Rattle.model_defs.specs.declared.point.Point.{Point}
use Rattle.site_model.specs.declared.site.Site.{Site}
use Rattle.site_model.specs.declared.tag.SiteTag.{SiteTag}
use Rattle.gateway.specs.declared.served.point.OwnPoint.{OwnPoint}
use Rattle.gateway.specs.event_core.SiteRun.{setting_of}
use Rattle.gateway.specs.served.Points.{registers_of}
use Rattle.served_rows.specs.declared.row.MapRow.{MapRow}
use Rattle.served_rows.specs.declared.row.PointSubject.{PointSubject}
use Rattle.served_rows.specs.declared.row.PointSubject.TheVariants as subject

-- ---- where they stand

-- the address after a point; the largest number stays
abbrev pub after_point : ℕ → OwnPoint → ℕ
after_point at own = min (at + registers_of own) (2 ^ 64 - 1)

-- the addresses of points side by side, the first of which stands at this one
abbrev pub addresses_from : ℕ → List OwnPoint → List ℕ
addresses_from at [] = []
addresses_from at (own ∷ points) = at ∷ addresses_from (after_point at own) points

-- the address after the last of them
abbrev pub after_points : ℕ → List OwnPoint → ℕ
after_points at [] = at
after_points at (own ∷ points) = after_points (after_point at own) points

abbrev pub address_of : MapRow → ℕ
address_of row = row.address

-- ---- what they are of

abbrev pub point_of : MapRow → OwnPoint
point_of row = row.point

abbrev pub subject_of : MapRow → PointSubject
subject_of row = row.subject

-- the points of the model of this number, which are numbered from i on
abbrev pub subjects_from : (model i : ℕ) → List Point → List PointSubject
subjects_from model i [] = []
subjects_from model i (p ∷ ps) = subject.Point model i ∷ subjects_from model (i + 1) ps

-- those of models that are numbered from n on
abbrev pub subjects_of_models : ℕ → List ModelDef → List PointSubject
subjects_of_models n [] = []
subjects_of_models n (m ∷ ms) = subjects_from n 0 m.points ++ subjects_of_models (n + 1) ms

-- the two registers of the mark, the points of the models in order, the two registers of the end model
abbrev pub subjects : Site → List PointSubject
subjects site = subject.Mark ∷ subject.Mark ∷ (subjects_of_models 0 site.models ++ subject.End ∷ subject.End ∷ [])

-- ---- who writes them

-- There is a tag that a client sets by a write of this point.
abbrev pub IsSet : List SiteTag → OwnPoint → Type 0
IsSet tags own = (tag : ℕ) × (setting_of tags own ≡ Some tag)
