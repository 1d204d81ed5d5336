-- Which model definition a JSON tree stands for, and which rule a tree breaks.
-- SunSpec Device Information Model Specification, model definitions in JSON: a model's `id` and `group`, the group's `points`,
-- and of each point its `name`, `type` and `size`, and where they are there `sf` and `access`.
use Rattle.std.specs.Prelude.{◌≡◌, ◌⊎◌, ℕ, ◌==◌, ◌&&◌, Bool, true, false, not, List, [], ◌∷◌, ◌++◌, map, find, sum_by, slice_get, nat_le, nat_lt, ℤ, pos, negsuc, neg_ℤ, int_le, Option, None, Some, option_map, option_and_then, Result, Ok, Err, if◌then◌else◌, codes, IsUtf8}
use Rattle.std.specs.List.{list_any, list_all}
use Rattle.std.specs.Option.{ok_or, option_or, option_map_or}
use Rattle.std.specs.Str.{bytes_eq}
use Rattle.serde_json.specs.Data.{Data, Items, no_items, item}
use Rattle.serde_json.specs.Find.{get, as_number, as_integer, as_str, as_array}
use Rattle.serde_json.specs.Read.{read}
use Rattle.point_types.specs.Point.{size_of}
use Rattle.point_types.specs.Value.{◌>>=◌}
use Rattle.point_types.specs.declared.kind.Kind.{Kind}
use Rattle.point_types.specs.declared.kind.Kind.TheVariants as kinds
use Rattle.model_defs.specs.declared.point.Point.{Point}
use Rattle.model_defs.specs.declared.point.Sf.{Sf}
use Rattle.model_defs.specs.declared.point.Sf.TheVariants as factors
use Rattle.model_defs.specs.declared.model.ModelDef.{ModelDef}
use Rattle.model_defs.specs.declared.fault.DefFault.{DefFault}
use Rattle.model_defs.specs.declared.fault.DefFault.TheVariants as fault

-- the text is UTF-8, and JSON with this tree
abbrev pub IsTree : List ℕ → Data → Type 0
IsTree text tree = IsUtf8 text × (read text ≡ Some tree)

-- a number without a fraction and without an exponent, of 64 bits
abbrev pub whole : Data → Option ℤ
whole tree = option_and_then as_integer (as_number tree)

-- ---- the keys of a model

pub record Outline : Type 0 where
  pub id : ℤ
  pub group : Data
  pub points : Items

-- nothing where a key is missing or of another JSON kind
abbrev pub outline_of : Data → Option Outline
outline_of tree =
    option_and_then (λ id.
    option_and_then (λ group.
    option_map (λ points. record { id = id; group = group; points = points })
    (option_and_then as_array (get (codes "points") group)))
    (get (codes "group") tree))
    (option_and_then whole (get (codes "id") tree))

-- 0 is no model, and 65535 ends a map
abbrev pub is_model_id : ℤ → Bool
is_model_id id = int_le (pos 1) id && int_le id (pos 65534)

abbrev pub has_none : Items → Bool
has_none no_items = true
has_none (item tree trees) = false

abbrev pub is_empty_list : Data → Bool
is_empty_list tree = option_map_or has_none (as_array tree) false

-- the group has groups of its own, which repeat
abbrev pub repeats : Data → Bool
repeats group = option_map_or (λ groups. not (is_empty_list groups)) (get (codes "groups") group) false

-- ---- the keys of a point

-- what scales a point: nothing, a power of ten, the power of ten in the point of a name
pub data Factor : Type 0 where
  unscaled : Factor
  fixed : ℤ → Factor
  named : List ℕ → Factor

pub record PointKeys : Type 0 where
  pub name : List ℕ
  pub kind : List ℕ
  pub size : ℤ
  pub factor : Factor
  pub access : List ℕ

abbrev pub factor_in : Data → Option Factor
factor_in tree = option_or (option_map named (as_str tree)) (option_map fixed (whole tree))

-- the key `sf` may be missing
abbrev pub factor_at : Data → Option Factor
factor_at point = option_map_or factor_in (get (codes "sf") point) (Some unscaled)

-- the key `access` may be missing
abbrev pub access_at : Data → Option (List ℕ)
access_at point = option_map_or as_str (get (codes "access") point) (Some (codes "R"))

-- nothing where a key is missing or of another JSON kind
abbrev pub point_keys : Data → Option PointKeys
point_keys tree =
    option_and_then (λ name.
    option_and_then (λ kind.
    option_and_then (λ size.
    option_and_then (λ factor.
    option_map (λ access. record { name = name; kind = kind; size = size; factor = factor; access = access })
    (access_at tree))
    (factor_at tree))
    (option_and_then whole (get (codes "size") tree)))
    (option_and_then as_str (get (codes "type") tree)))
    (option_and_then as_str (get (codes "name") tree))

-- the types of points that this profile knows
abbrev pub kind_words : List (List ℕ × Kind)
kind_words =
    (codes "int16", kinds.Int16) ∷ (codes "uint16", kinds.Uint16) ∷ (codes "acc16", kinds.Acc16) ∷ (codes "enum16", kinds.Enum16) ∷
    (codes "bitfield16", kinds.Bitfield16) ∷ (codes "sunssf", kinds.Sunssf) ∷ (codes "pad", kinds.Pad) ∷
    (codes "int32", kinds.Int32) ∷ (codes "uint32", kinds.Uint32) ∷ (codes "enum32", kinds.Enum32) ∷
    (codes "bitfield32", kinds.Bitfield32) ∷ (codes "acc32", kinds.Acc32) ∷
    (codes "int64", kinds.Int64) ∷ (codes "uint64", kinds.Uint64) ∷ (codes "acc64", kinds.Acc64) ∷ (codes "string", kinds.String) ∷ []

abbrev pub kind_of : List ℕ → Option Kind
kind_of word = option_map (λ e. e.1) (find (λ e. bytes_eq word e.0) kind_words)

-- whether clients may write the point
abbrev pub writable_by : List ℕ → Option Bool
writable_by access = if bytes_eq access (codes "R") then Some false else (if bytes_eq access (codes "RW") then Some true else None)

-- a string has any number of registers but none, any other kind its own
abbrev pub is_size : Kind → ℕ → Bool
is_size kinds.String n = nat_le 1 n
is_size kind n = n == size_of kind

abbrev pub registers : Kind → ℤ → Option ℕ
registers kind (pos n) = if is_size kind n then Some n else None
registers kind (negsuc n) = None

-- ---- a point by itself: all but its place and its factor's

pub record Description : Type 0 where
  pub name : List ℕ
  pub kind : Kind
  pub size : ℕ
  pub factor : Factor
  pub writable : Bool

abbrev pub described : PointKeys → Result Description DefFault
described keys =
    ok_or (kind_of keys.kind) fault.BadType >>= λ kind.
    ok_or (writable_by keys.access) fault.BadType >>= λ writable.
    ok_or (registers kind keys.size) fault.BadSize >>= λ size.
    Ok (record { name = keys.name; kind = kind; size = size; factor = keys.factor; writable = writable })

abbrev pub description_of : Data → Result Description DefFault
description_of tree = ok_or (point_keys tree) fault.MissingKey >>= described

-- ---- the points of a group

-- the description first, where the tree has one
abbrev pub joined : Result Description DefFault → List Description → List Description
joined (Ok d) ds = d ∷ ds
joined (Err e) ds = ds

abbrev pub descriptions_of : Items → List Description
descriptions_of no_items = []
descriptions_of (item tree trees) = joined (description_of tree) (descriptions_of trees)

abbrev pub has_name : List ℕ → Description → Bool
has_name name d = bytes_eq name d.name

-- the rule that this point breaks, or else the first that the points after it break
abbrev pub broken_from : List Description → Result Description DefFault → (List Description → Option DefFault) → Option DefFault
broken_from seen (Err e) behind = Some e
broken_from seen (Ok d) behind = if list_any (has_name d.name) seen then Some fault.DuplicateName else behind (seen ++ d ∷ [])

-- the first rule that the points break, taken one by one, where `seen` are the points before them
abbrev pub broken_among : List Description → Items → Option DefFault
broken_among seen no_items = None
broken_among seen (item tree trees) = broken_from seen (description_of tree) (λ longer. broken_among longer trees)

-- ---- the points together

abbrev pub is_uint16 : Kind → Bool
is_uint16 kinds.Uint16 = true
is_uint16 other = false

abbrev pub is_sunssf : Kind → Bool
is_sunssf kinds.Sunssf = true
is_sunssf other = false

-- there is a description at that number, of that name and of kind uint16
abbrev pub is_heading : List Description → ℕ → List ℕ → Bool
is_heading ds i name = option_map_or (λ d. has_name name d && is_uint16 d.kind) (slice_get ds i) false

-- the model's ID and its length come first
abbrev pub has_header : List Description → Bool
has_header ds = is_heading ds 0 (codes "ID") && is_heading ds 1 (codes "L")

-- the registers of all points; the length counts neither ID nor L
abbrev pub all_registers : List Description → ℕ
all_registers ds = sum_by (λ d. d.size) ds

abbrev pub most_registers : ℕ
most_registers = 125

-- a power of ten in -10..10, or the name of a point of kind sunssf
abbrev pub is_factor : List Description → Factor → Bool
is_factor ds unscaled = true
is_factor ds (fixed n) = int_le (neg_ℤ (pos 10)) n && int_le n (pos 10)
is_factor ds (named name) = option_map_or (λ d. is_sunssf d.kind) (find (has_name name) ds) false

abbrev pub has_all_factors : List Description → List Description → Bool
has_all_factors ds some = list_all (λ d. is_factor ds d.factor) some

abbrev pub broken_whole : List Description → Option DefFault
broken_whole ds =
    if not (has_header ds) then Some fault.BadHeader else
    (if nat_lt most_registers (all_registers ds) then Some fault.TooLong else
    (if not (has_all_factors ds ds) then Some fault.BadScalePoint else None))

-- ---- the model

abbrev pub broken_in : Outline → Option DefFault
broken_in model =
    if not (is_model_id model.id) then Some fault.BadType else
    (if repeats model.group then Some fault.Repeating else
    option_or (broken_among [] model.points) (broken_whole (descriptions_of model.points)))

abbrev pub first_broken_of : Option Outline → Option DefFault
first_broken_of None = Some fault.MissingKey
first_broken_of (Some model) = broken_in model

-- the first rule that a tree breaks: the model's keys, its id, groups that repeat, the points one by one, the points together
abbrev pub first_broken : Data → Option DefFault
first_broken tree = first_broken_of (outline_of tree)

-- the same of a text: its first rule is to be JSON
abbrev pub Breaks : List ℕ → DefFault → Type 0
Breaks text e = ((e ≡ fault.NotJson) × (IsUtf8 text → read text ≡ None)) ⊎ ((tree : Data) × IsTree text tree × (first_broken tree ≡ Some e))

-- the name of a factor by number
abbrev pub factor_told : List Description → Sf → Factor
factor_told ds factors.None = unscaled
factor_told ds (factors.Fixed n) = fixed n
factor_told ds (factors.At j) = named (option_map_or (λ d. d.name) (slice_get ds j) [])

-- the description that a point of a model has, the model's descriptions being ds
abbrev pub description_told : List Description → Point → Description
description_told ds p = record { name = p.name; kind = p.kind; size = p.size; factor = factor_told ds p.sf; writable = p.writable }

-- the points are the descriptions, in order
abbrev pub ArePoints : List Description → List Point → Type 0
ArePoints ds points = map (description_told ds) points ≡ ds

-- each factor by number is a description of kind sunssf
abbrev pub HasFactorsAmong : List Description → List Point → Type 0
HasFactorsAmong ds points = (i j : ℕ) (p : Point) → slice_get points i ≡ Some p → p.sf ≡ factors.At j → option_map (λ d. d.kind) (slice_get ds j) ≡ Some kinds.Sunssf

-- The model has the tree's id and points. Where its points lie, and that its parts fit, is what each `ModelDef` says of itself.
abbrev pub StandsFor : Data → ModelDef → Type 0
StandsFor tree model = (o : Outline) × (outline_of tree ≡ Some o) × (o.id ≡ pos model.id) × ArePoints (descriptions_of o.points) model.points

-- a text that is a definition: its tree breaks no rule, and the model is the tree's
abbrev pub IsRead : List ℕ → ModelDef → Type 0
IsRead text model = (tree : Data) × IsTree text tree × (first_broken tree ≡ None) × StandsFor tree model
