-- The model that a definition in JSON describes, point by point.
-- The rules that a definition may break, and in which order they are told, are those of model_defs.
-- SunSpec Device Information Model Specification, model definitions in JSON: a model's `id` and `group`, the group's `points`, of
-- each its `name`, `type` and `size`, and where they are there `sf` and `access`.
use Rattle.std.specs.Prelude.{◌≡◌, pos, List, [], ◌∷◌, slice_get, Option, None, Some, option_and_then, codes}
use Rattle.serde_json.specs.Data.{Data, Items, no_items, item}
use Rattle.serde_json.specs.Find.{get, as_str, as_array}
use Rattle.model_defs.specs.Definition.{access_at, kind_of, whole, writable_by}
use Rattle.model_defs.specs.declared.point.Point.{Point}
use Rattle.model_defs.specs.declared.point.Sf.{Sf}
use Rattle.model_defs.specs.declared.point.Sf.TheVariants as factors
use Rattle.model_defs.specs.declared.model.ModelDef.{ModelDef}

-- what scales a point: nothing, a power of ten, or the point of the name that is said
abbrev pub IsFactorOf : List Point → Option Data → Sf → Type 0
IsFactorOf points None sf = sf ≡ factors.None
IsFactorOf points (Some tree) factors.None = ⊥
IsFactorOf points (Some tree) (factors.Fixed n) = whole tree ≡ Some n
IsFactorOf points (Some tree) (factors.At j) = (q : Point) × (slice_get points j ≡ Some q) × (as_str tree ≡ Some q.name)

-- a point has what the keys of its entry say
pub record IsPointOf (points : List Point) (entry : Data) (p : Point) : Type 0 where
  pub name : option_and_then as_str (get (codes "name") entry) ≡ Some p.name
  pub kind : option_and_then kind_of (option_and_then as_str (get (codes "type") entry)) ≡ Some p.kind
  pub size : option_and_then whole (get (codes "size") entry) ≡ Some (pos p.size)
  pub factor : IsFactorOf points (get (codes "sf") entry) p.sf
  pub writable : option_and_then writable_by (access_at entry) ≡ Some p.writable

-- one for each entry, in order
abbrev pub ArePointsOf : List Point → Items → List Point → Type 0
ArePointsOf all no_items [] = Unit {0}
ArePointsOf all no_items (p ∷ ps) = ⊥
ArePointsOf all (item entry entries) [] = ⊥
ArePointsOf all (item entry entries) (p ∷ ps) = IsPointOf all entry p × ArePointsOf all entries ps

pub record IsModelOf (tree : Data) (model : ModelDef) : Type 0 where
  pub id : option_and_then whole (get (codes "id") tree) ≡ Some (pos model.id)
  pub group : Data
  pub grouped : get (codes "group") tree ≡ Some group
  pub entries : Items
  pub listed : option_and_then as_array (get (codes "points") group) ≡ Some entries
  pub points : ArePointsOf model.points entries model.points
