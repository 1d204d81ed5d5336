-- Which gateway the section `gateway` of a site file stands for, over given model definitions.
-- SunSpec Device Information Model Specification, the map of a device: the mark, model 1 first, an end model.
use Rattle.std.specs.Prelude.{ℕ, ◌+◌, ℤ, pos, nat_le, nat_eq, Bool, true, false, not, ◌&&◌, List, [], ◌∷◌, ◌++◌, sum_by, Option, None, Some, option_map, option_and_then, if◌then◌else◌, Result, codes}
use Rattle.std.specs.List.{list_any}
use Rattle.std.specs.Option.{ok_or, option_map_or}
use Rattle.toml.specs.Data.{Data, Items, no_items, item, get, as_integer}
use Rattle.point_types.specs.Value.{◌>>=◌, int_eq}
use Rattle.model_defs.specs.declared.model.ModelDef.{ModelDef}
use Rattle.file_keys.specs.Keys.{number_at, optional_number_at, numbers_in, natural_within}
use Rattle.site_model.specs.declared.fault.SiteFault.{SiteFault}
use Rattle.site_model.specs.declared.fault.SiteFault.TheVariants as fault

pub record GatewayKeys : Type 0 where
  pub unit : ℤ
  pub base : Option ℤ
  pub models : Items

pub record Gateway : Type 0 where
  pub unit : ℕ
  pub base : ℕ
  pub models : List ModelDef

-- nothing where a key is missing or of another kind
abbrev pub gateway_keys : Data → Option GatewayKeys
gateway_keys tree =
    option_and_then (λ unit.
    option_and_then (λ base.
    option_map (λ models. record { unit = unit; base = base; models = models })
    (option_and_then numbers_in (get (codes "models") tree)))
    (optional_number_at (codes "base") tree))
    (number_at (codes "unit") tree)

abbrev pub has_id : ℤ → ModelDef → Bool
has_id id model = int_eq (pos model.id) id

-- the last definition of an id, or else the one that was found before
abbrev pub latest : ℤ → Option ModelDef → List ModelDef → Option ModelDef
latest id found [] = found
latest id found (d ∷ ds) = latest id (if has_id id d then Some d else found) ds

-- of two definitions with one id the last one counts
abbrev pub definition_of : List ModelDef → ℤ → Option ModelDef
definition_of defs id = latest id None defs

-- the definitions of some ids after those that are found; nothing where one has none
abbrev pub definitions_behind : List ModelDef → List ModelDef → Items → Option (List ModelDef)
definitions_behind defs found no_items = Some found
definitions_behind defs found (item d ds) =
    option_and_then (λ model. definitions_behind defs (found ++ model ∷ []) ds) (option_and_then (definition_of defs) (as_integer d))

abbrev pub is_common : ModelDef → Bool
is_common model = nat_eq model.id 1

abbrev pub begins_with_common : List ModelDef → Bool
begins_with_common [] = false
begins_with_common (model ∷ models) = is_common model

abbrev pub has_distinct_ids : List ModelDef → Bool
has_distinct_ids [] = true
has_distinct_ids (model ∷ models) = not (list_any (λ other. nat_eq other.id model.id) models) && has_distinct_ids models

-- the last register of a map: the mark has two, each model its ID, L and length, the end model its ID and L
abbrev pub end_of_map : ℕ → List ModelDef → ℕ
end_of_map base models = base + 3 + sum_by (λ m. m.length + 2) models

abbrev pub is_map : ℕ → List ModelDef → Bool
is_map base models = begins_with_common models && (has_distinct_ids models && nat_le (end_of_map base models) 65535)

abbrev pub gateway_within : GatewayKeys → List ModelDef → Option Gateway
gateway_within keys models =
    option_and_then (λ unit.
    option_and_then (λ base.
    if is_map base models then Some (record { unit = unit; base = base; models = models }) else None)
    (natural_within 65534 (option_map_or (λ n. n) keys.base (pos 40000))))
    (natural_within 255 keys.unit)

-- the gateway, or the first rule that is broken
abbrev pub gateway_of : List ModelDef → Data → Result Gateway SiteFault
gateway_of defs doc =
    ok_or (option_and_then gateway_keys (get (codes "gateway") doc)) fault.MissingKey >>= λ keys.
    ok_or (definitions_behind defs [] keys.models) fault.UnknownModel >>= λ models.
    ok_or (gateway_within keys models) fault.BadRange
