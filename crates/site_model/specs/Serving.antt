-- Which points the entries of the section `served` of a site file give a value.
-- SunSpec Device Information Model Specification, points: their kinds, and the words that say that there is no value.
use Rattle.std.specs.Prelude.{ℕ, ◌+◌, ◌*◌, ℤ, pos, neg_ℤ, nat_eq, nat_le, nat_lt, Bool, true, false, not, ◌&&◌, ◌||◌, is_some, List, [], ◌∷◌, ◌++◌, length, find, slice_get, Option, None, Some, option_map, option_and_then, if◌then◌else◌, Result, Ok, Err, codes}
use Rattle.std.specs.List.{list_any}
use Rattle.std.specs.Option.{ok_or, option_map_or}
use Rattle.std.specs.Str.{bytes_eq}
use Rattle.toml.specs.Data.{Data, Items, no_items, item, as_str}
use Rattle.point_types.specs.Value.{◌>>=◌, is_within, int_eq}
use Rattle.point_types.specs.declared.kind.Kind.{Kind}
use Rattle.point_types.specs.declared.kind.Kind.TheVariants as kinds
use Rattle.model_defs.specs.declared.point.Point.{Point}
use Rattle.model_defs.specs.declared.model.ModelDef.{ModelDef}
use Rattle.file_keys.specs.Keys.{text_at, number_at, flag_or, optional_text_at, optional_number_at, optional_texts_at}
use Rattle.site_model.specs.Gateway.{has_id}
use Rattle.site_model.specs.Tagging.{Tag, is_input, is_own, is_numeric, is_sunssf, point_number, offset_at}
use Rattle.site_model.specs.declared.served.Served.{Served}
use Rattle.site_model.specs.declared.served.Source.{Source}
use Rattle.site_model.specs.declared.served.Source.TheVariants as source
use Rattle.site_model.specs.declared.fault.SiteFault.{SiteFault}
use Rattle.site_model.specs.declared.fault.SiteFault.TheVariants as fault

-- ---- the keys of an entry

-- what the point is to be served with, each where it is there, and whether a sum is of those of its inputs that have a value
pub record Given : Type 0 where
  pub value : Option ℤ
  pub text : Option (List ℕ)
  pub sum : Option Items
  pub partial : Bool

pub record ServedKeys : Type 0 where
  pub model : ℤ
  pub point : List ℕ
  pub given : Given

abbrev pub has_one : Given → Bool
has_one g = is_some g.value || (is_some g.text || is_some g.sum)

-- one at least is there
abbrev pub given_of : Data → Option Given
given_of tree =
    option_and_then (λ value.
    option_and_then (λ text.
    option_and_then (λ sum.
    option_and_then (λ partial. let g : Given = record { value = value; text = text; sum = sum; partial = partial } in if has_one g then Some g else None)
    (flag_or (codes "partial") false tree))
    (optional_texts_at (codes "sum") tree))
    (optional_text_at (codes "text") tree))
    (optional_number_at (codes "value") tree)

-- nothing where a key is missing or of another kind
abbrev pub served_keys : Data → Option ServedKeys
served_keys tree =
    option_and_then (λ model.
    option_and_then (λ point.
    option_map (λ given. record { model = model; point = point; given = given })
    (given_of tree))
    (text_at (codes "point") tree))
    (number_at (codes "model") tree)

-- ---- the ranges

-- the least and the greatest raw number that words of the kind can stand for, the unimplemented ones left out
abbrev pub raw_range : Kind → Option (ℤ × ℤ)
raw_range kinds.Int16 = Some (neg_ℤ (pos 32767), pos 32767)
raw_range kinds.Sunssf = Some (neg_ℤ (pos 32767), pos 32767)
raw_range kinds.Int32 = Some (neg_ℤ (pos 2147483647), pos 2147483647)
raw_range kinds.Int64 = Some (neg_ℤ (pos 9223372036854775807), pos 9223372036854775807)
raw_range kinds.Uint16 = Some (pos 0, pos 65534)
raw_range kinds.Enum16 = Some (pos 0, pos 65534)
raw_range kinds.Uint32 = Some (pos 0, pos 4294967294)
raw_range kinds.Enum32 = Some (pos 0, pos 4294967294)
raw_range kinds.Uint64 = Some (pos 0, pos 18446744073709551614)
raw_range kinds.Acc16 = Some (pos 1, pos 65535)
raw_range kinds.Acc32 = Some (pos 1, pos 4294967295)
raw_range kinds.Acc64 = Some (pos 1, pos 18446744073709551615)
raw_range kinds.Bitfield16 = Some (pos 0, pos 32767)
raw_range kinds.Bitfield32 = Some (pos 0, pos 2147483647)
raw_range kinds.Pad = None
raw_range kinds.String = None

abbrev pub can_be_encoded : Kind → ℤ → Bool
can_be_encoded point n = option_map_or (λ r. is_within r.0 r.1 n) (raw_range point) true

abbrev pub is_string : Kind → Bool
is_string kinds.String = true
is_string other = false

-- a text has two bytes a register
abbrev pub has_room : Point → List ℕ → Bool
has_room p text = not (is_string p.kind) || nat_le (length text) (2 * p.size)

abbrev pub fits : Point → Given → Bool
fits p g = option_map_or (can_be_encoded p.kind) g.value true && option_map_or (has_room p) g.text true

-- ---- sums

abbrev pub is_input_named : List ℕ → Tag → Bool
is_input_named name t = bytes_eq t.name name && is_input t.access

-- the exponent of the input of a name
abbrev pub exponent_of_part : List Tag → Data → Option ℤ
exponent_of_part tags part = option_and_then (λ name. option_map (λ t. t.exponent) (find (is_input_named name) tags)) (as_str part)

abbrev pub is_part : ℤ → List ℕ → Tag → Bool
is_part exponent name t = is_input_named name t && int_eq t.exponent exponent

-- the number of the first such tag, where the first one of the list has this number
abbrev pub part_from : ℕ → ℤ → List ℕ → List Tag → Option ℕ
part_from i exponent name [] = None
part_from i exponent name (t ∷ ts) = if is_part exponent name t then Some i else part_from (i + 1) exponent name ts

-- the number of the input of a name and an exponent
abbrev pub part_number : ℤ → List Tag → Data → Option ℕ
part_number exponent tags part = option_and_then (λ name. part_from 0 exponent name tags) (as_str part)

-- the numbers of some inputs of one exponent after those before
abbrev pub parts_behind : ℤ → List Tag → List ℕ → Items → Option (List ℕ)
parts_behind exponent tags found no_items = Some found
parts_behind exponent tags found (item part parts) =
    option_and_then (λ i. parts_behind exponent tags (found ++ i ∷ []) parts) (part_number exponent tags part)

-- the inputs of a sum, at least one, all with the exponent of the first
abbrev pub sum_of : List Tag → Items → Option (List ℕ)
sum_of tags no_items = None
sum_of tags (item part parts) = option_and_then (λ e. parts_behind e tags [] (item part parts)) (exponent_of_part tags part)

-- ---- the entry

-- the total of some inputs, or of those that have a value
abbrev pub total_source : (partial : Bool) → List ℕ → Source
total_source false parts = source.Sum parts
total_source true parts = source.PartialSum parts

-- one of them, on a point of its kind; only a sum may be partial
abbrev pub source_from : List Tag → Kind → Option ℤ → Option (List ℕ) → Option Items → (partial : Bool) → Option Source
source_from tags point (Some n) None None false = if is_numeric point then Some (source.Raw n) else None
source_from tags point None (Some text) None false = if is_string point then Some (source.Text text) else None
source_from tags point None None (Some parts) partial =
    if is_numeric point && not (is_sunssf point) then option_map (total_source partial) (sum_of tags parts) else None
source_from tags point value text parts partial = None

abbrev pub source_of : List Tag → Kind → Given → Option Source
source_of tags point g = source_from tags point g.value g.text g.sum g.partial

-- ---- what is used already

abbrev pub is_entry_of : ℕ → ℕ → Served → Bool
is_entry_of model point s = nat_eq s.model model && nat_eq s.point point

abbrev pub is_tag_of : ℕ → ℕ → Tag → Bool
is_tag_of model offset t = is_own t.access && (nat_eq t.model model && nat_eq t.offset offset)

-- ID and length are the first two points
abbrev pub is_used : List Tag → List Served → ModelDef → ℕ → Bool
is_used tags seen model i =
    nat_lt i 2 || (list_any (is_entry_of model.id i) seen || list_any (is_tag_of model.id (offset_at model i)) tags)

-- ---- the entries

-- what a point is served with
abbrev pub source_for : List Tag → Point → Given → Result Source SiteFault
source_for tags p g = if fits p g then ok_or (source_of tags p.kind g) fault.BadType else Err fault.BadRange

abbrev pub served_over : List Tag → List Served → ModelDef → ℕ → Source → Result Served SiteFault
served_over tags seen model i s = if is_used tags seen model i then Err fault.Duplicate else Ok (record { model = model.id; point = i; source = s })

abbrev pub served_at : List Tag → List Served → ModelDef → ℕ → Point → Given → Result Served SiteFault
served_at tags seen model i p given = source_for tags p given >>= served_over tags seen model i

-- an entry after those before it, or the first rule that is broken
abbrev pub served_of : List ModelDef → List Tag → List Served → Data → Result Served SiteFault
served_of own tags seen tree =
    ok_or (served_keys tree) fault.MissingKey >>= λ keys.
    ok_or (find (has_id keys.model) own) fault.UnknownModel >>= λ model.
    ok_or (point_number keys.point model) fault.UnknownPoint >>= λ i.
    ok_or (slice_get model.points i) fault.UnknownPoint >>= λ p.
    served_at tags seen model i p keys.given

-- the entries in order
abbrev pub served_behind : List ModelDef → List Tag → List Served → Items → Result (List Served) SiteFault
served_behind own tags seen no_items = Ok seen
served_behind own tags seen (item tree trees) = served_of own tags seen tree >>= λ s. served_behind own tags (seen ++ s ∷ []) trees
