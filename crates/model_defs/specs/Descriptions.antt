-- inner: what the reader's own values stand for: a point's keys, and a point by itself.
-- SunSpec Device Information Model Specification, model definitions in JSON.
use Rattle.std.specs.Prelude.{ℕ, List, map}
use denote.Ref.{Bor}
use Rattle.serde_json.specs.View.{view, items_view}
use Rattle.model_defs.specs.Definition.{unscaled, fixed, named}
use Rattle.model_defs.specs.Definition as told
use Rattle.model_defs.specs.declared.description.Factor.{Factor}
use Rattle.model_defs.specs.declared.description.Factor.TheVariants as factors
use Rattle.model_defs.specs.declared.description.Description.{Description}
use Rattle.model_defs.specs.declared.reader.Outline.{Outline}
use Rattle.model_defs.specs.declared.point_object.PointKeys.{PointKeys}

abbrev pub factor_view : Factor → told.Factor
factor_view factors.Unscaled = unscaled
factor_view (factors.Fixed n) = fixed n
factor_view (factors.Named name) = named name.now

abbrev pub keys_view : PointKeys → told.PointKeys
keys_view keys = record { name = keys.name.now; kind = keys.kind.now; size = keys.size; factor = factor_view keys.factor; access = keys.access.now }

-- a point of a name
abbrev pub description_view : List ℕ → Description → told.Description
description_view name d = record { name = name; kind = d.kind; size = d.size; factor = factor_view d.factor; writable = d.writable }

-- the points of a model, by name and in order
abbrev pub descriptions_view : List (Bor (List ℕ) × Description) → List told.Description
descriptions_view entries = map (λ e. description_view e.0.now e.1) entries

abbrev pub outline_view : Outline → told.Outline
outline_view o = record { id = o.id; group = view o.group.now; points = items_view o.points.now.items }
