-- Worked trees: what they stand for, and what they break.
-- SunSpec Device Information Model Specification, model definitions in JSON.
use Rattle.std.specs.Prelude.{◌≡◌, ℕ, List, None, Some, refl, codes}
use Rattle.serde_json.specs.Data.{Data, Items, no_items, item, no_members, member, number, string, array, object, unsigned}
use Rattle.model_defs.specs.Definition.{first_broken}
use Rattle.model_defs.specs.declared.fault.DefFault.TheVariants as fault

abbrev pub point : List ℕ → List ℕ → ℕ → Data
point name kind size =
    object (member (codes "name") (string name) (member (codes "size") (number (unsigned size)) (member (codes "type") (string kind) no_members)))

abbrev pub model : ℕ → Items → Data
model id points = object (member (codes "group") (object (member (codes "points") (array points) no_members)) (member (codes "id") (number (unsigned id)) no_members))

-- ID, L and what follows
abbrev pub behind_header : Items → Items
behind_header points = item (point (codes "ID") (codes "uint16") 1) (item (point (codes "L") (codes "uint16") 1) points)

pub no_keys : first_broken (object no_members) ≡ Some fault.MissingKey
no_keys = refl

pub whole_model : first_broken (model 7 (behind_header (item (point (codes "W") (codes "int16") 1) no_items))) ≡ None
whole_model = refl

pub no_model : first_broken (model 0 (behind_header no_items)) ≡ Some fault.BadType
no_model = refl

pub no_such_type : first_broken (model 7 (behind_header (item (point (codes "W") (codes "float32") 2) no_items))) ≡ Some fault.BadType
no_such_type = refl

pub wrong_size : first_broken (model 7 (behind_header (item (point (codes "W") (codes "int32") 1) no_items))) ≡ Some fault.BadSize
wrong_size = refl

pub two_of_a_name : first_broken (model 7 (behind_header (item (point (codes "L") (codes "int16") 1) no_items))) ≡ Some fault.DuplicateName
two_of_a_name = refl

pub no_header : first_broken (model 7 no_items) ≡ Some fault.BadHeader
no_header = refl

pub too_long : first_broken (model 7 (behind_header (item (point (codes "T") (codes "string") 124) no_items))) ≡ Some fault.TooLong
too_long = refl

pub longest : first_broken (model 7 (behind_header (item (point (codes "T") (codes "string") 123) no_items))) ≡ None
longest = refl
