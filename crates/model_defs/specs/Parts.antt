-- Which part of a definition breaks the first rule: all that is before it breaks none.
-- SunSpec Device Information Model Specification, model definitions in JSON.
use Rattle.std.specs.Prelude.{◌≡◌, ◌⊎◌, ℕ, zero, suc, true, false, not, List, [], ◌∷◌, ◌++◌, length, nat_lt, Option, None, Some, Ok, Err, if◌then◌else◌, IsUtf8}
use Rattle.std.specs.List.{list_any}
use Rattle.serde_json.specs.Data.{Data, Items, no_items, item}
use Rattle.serde_json.specs.Find.{get_item}
use Rattle.serde_json.specs.Read.{read}
use Rattle.model_defs.specs.Definition.{IsTree, Outline, outline_of, is_model_id, repeats, Description, description_of, descriptions_of, has_name, broken_among, has_header, all_registers, most_registers, is_factor, has_all_factors}
use Rattle.model_defs.specs.declared.part.DefPart.{DefPart}
use Rattle.model_defs.specs.declared.part.DefPart.TheVariants as parts
use Rattle.model_defs.specs.declared.fault.DefFault.{DefFault}
use Rattle.model_defs.specs.declared.fault.DefFault.TheVariants as fault

-- ---- the model's own keys

-- its id is none, or its points repeat
abbrev pub broken_heading : Outline → Option DefFault
broken_heading model =
    if not (is_model_id model.id) then Some fault.BadType else
    (if repeats model.group then Some fault.Repeating else None)

-- ---- one of the points

-- the points before number n
abbrev pub before : ℕ → Items → Items
before zero points = no_items
before (suc n) no_items = no_items
before (suc n) (item d ds) = item d (before n ds)

-- it is refused by itself, or has the name of one before it
abbrev pub IsBroken : List Description → Data → DefFault → Type 0
IsBroken seen point e =
    (description_of point ≡ Err e) ⊎
    ((d : Description) × (description_of point ≡ Ok d) × (list_any (has_name d.name) seen ≡ true) × (e ≡ fault.DuplicateName))

-- the points before it break no rule, and it breaks this one
pub record IsPointRefused (points : Items) (part : DefPart) (e : DefFault) : Type 0 where
  pub number : ℕ
  pub point : Data
  pub told : part ≡ parts.Point number
  pub unbroken : broken_among [] (before number points) ≡ None
  pub stands : get_item number points ≡ Some point
  pub broken : IsBroken (descriptions_of (before number points)) point e

-- ---- the points together

-- a point has no factor, and all before it have theirs
pub record IsUnscaled (ds : List Description) (part : DefPart) : Type 0 where
  pub front : List Description
  pub point : Description
  pub behind : List Description
  pub stands : ds ≡ front ++ point ∷ behind
  pub told : part ≡ parts.Point (length front)
  pub front_is_scaled : has_all_factors ds front ≡ true
  pub is_unscaled : is_factor ds point.factor ≡ false

pub data AreRefused (ds : List Description) (part : DefPart) (e : DefFault) : Type 0 where
  unheaded : part ≡ parts.Model → e ≡ fault.BadHeader → has_header ds ≡ false → AreRefused ds part e
  too_long : part ≡ parts.Model → e ≡ fault.TooLong → has_header ds ≡ true → nat_lt most_registers (all_registers ds) ≡ true → AreRefused ds part e
  unscaled : e ≡ fault.BadScalePoint → has_header ds ≡ true → nat_lt most_registers (all_registers ds) ≡ false → IsUnscaled ds part → AreRefused ds part e

-- ---- the definition

-- the model's keys, its id and its groups, then the points one by one, then the points together
pub data IsTreeFault (tree : Data) (part : DefPart) (e : DefFault) : Type 0 where
  in_keys : part ≡ parts.Model → e ≡ fault.MissingKey → outline_of tree ≡ None → IsTreeFault tree part e
  in_heading : (model : Outline) → outline_of tree ≡ Some model → part ≡ parts.Model → broken_heading model ≡ Some e → IsTreeFault tree part e
  in_points : (model : Outline) → outline_of tree ≡ Some model → broken_heading model ≡ None → IsPointRefused model.points part e → IsTreeFault tree part e
  in_all_points :
      (model : Outline) → outline_of tree ≡ Some model → broken_heading model ≡ None → broken_among [] model.points ≡ None →
      AreRefused (descriptions_of model.points) part e → IsTreeFault tree part e

-- the part of the text that breaks the first rule, by this fault
abbrev pub IsAtFault : List ℕ → DefPart → DefFault → Type 0
IsAtFault text part e =
    ((part ≡ parts.Model) × (e ≡ fault.NotJson) × (IsUtf8 text → read text ≡ None)) ⊎
    ((tree : Data) × IsTree text tree × IsTreeFault tree part e)
