-- Which tags the entries of the section `tag` of a site file stand for.
-- SunSpec Device Information Model Specification, points; IEC 61131-3 edition 2, 2.1.2 identifiers, 2.3.1 elementary data types.
use Rattle.std.specs.Prelude.{ℕ, ◌-◌, ℤ, pos, neg_ℤ, int_le, nat_eq, nat_lt, Bool, true, false, not, ◌&&◌, ◌||◌, is_some, List, [], ◌∷◌, ◌++◌, length, drop, find, position, slice_get, Option, None, Some, option_map, option_and_then, if◌then◌else◌, Result, Ok, Err, codes}
use Rattle.std.specs.List.{list_any, position}
use Rattle.std.specs.Option.{ok_or, option_map_or}
use Rattle.std.specs.Str.{bytes_eq}
use Rattle.toml.specs.Data.{Data, Items, no_items, item, get}
use Rattle.point_types.specs.Name.{name_of}
use Rattle.point_types.specs.Value.{◌>>=◌, int_eq, is_within, is_ranged, is_bool}
use Rattle.point_types.specs.declared.il_type.IlType.{IlType}
use Rattle.point_types.specs.declared.il_type.IlType.TheVariants as il
use Rattle.point_types.specs.declared.kind.Kind.{Kind}
use Rattle.point_types.specs.declared.kind.Kind.TheVariants as kinds
use Rattle.model_defs.specs.declared.point.Point.{Point}
use Rattle.model_defs.specs.declared.point.Sf.{Sf as PointSf}
use Rattle.model_defs.specs.declared.point.Sf.TheVariants as scales
use Rattle.model_defs.specs.declared.model.ModelDef.{ModelDef}
use Rattle.file_keys.specs.Keys.{text_at, number_at, optional_text_at, optional_number_at, natural_within}
use Rattle.site_model.specs.Gateway.{has_id, definition_of}
use Rattle.site_model.specs.Tag.{may_write, start_of}
use Rattle.site_model.specs.declared.access.Access.{Access}
use Rattle.site_model.specs.declared.access.Access.TheVariants as access
use Rattle.site_model.specs.declared.tag.Sf.{Sf}
use Rattle.site_model.specs.declared.tag.Sf.TheVariants as factors
use Rattle.site_model.specs.declared.fit.Fit.{Fit}
use Rattle.site_model.specs.declared.fit.Fit.TheVariants as fits
use Rattle.site_model.specs.declared.device.SiteDevice.{SiteDevice}
use Rattle.site_model.specs.declared.fault.SiteFault.{SiteFault}
use Rattle.site_model.specs.declared.fault.SiteFault.TheVariants as fault

-- ---- the keys of a tag

pub record Numbers : Type 0 where
  pub exponent : ℤ
  pub low : ℤ
  pub high : ℤ
  pub default : Option ℤ

-- where the tag's point is
pub record TagPlace : Type 0 where
  pub device : Option (List ℕ)
  pub model : ℤ
  pub point : List ℕ

pub record TagKeys : Type 0 where
  pub name : List ℕ
  pub access : List ℕ
  pub kind : List ℕ
  pub place : TagPlace
  pub numbers : Numbers
  pub bit : Option ℤ
  pub round : Option (List ℕ)
  pub lapse : Option ℤ
  pub fit : Option (List ℕ)
  pub companion : Option (List ℕ)

abbrev pub numbers_of : Data → Option Numbers
numbers_of tree =
    option_and_then (λ exponent.
    option_and_then (λ low.
    option_and_then (λ high.
    option_map (λ default. record { exponent = exponent; low = low; high = high; default = default })
    (optional_number_at (codes "default") tree))
    (number_at (codes "high") tree))
    (number_at (codes "low") tree))
    (number_at (codes "exponent") tree)

abbrev pub place_of : Data → Option TagPlace
place_of tree =
    option_and_then (λ device.
    option_and_then (λ model.
    option_map (λ point. record { device = device; model = model; point = point })
    (text_at (codes "point") tree))
    (number_at (codes "model") tree))
    (optional_text_at (codes "device") tree)

-- nothing where a key is missing or of another kind
abbrev pub tag_keys : Data → Option TagKeys
tag_keys tree =
    option_and_then (λ name.
    option_and_then (λ access.
    option_and_then (λ kind.
    option_and_then (λ place.
    option_and_then (λ numbers.
    option_and_then (λ bit.
    option_and_then (λ round.
    option_and_then (λ lapse.
    option_and_then (λ fit.
    option_map (λ companion. record { name = name; access = access; kind = kind; place = place; numbers = numbers; bit = bit; round = round; lapse = lapse; fit = fit; companion = companion })
    (optional_text_at (codes "with") tree))
    (optional_text_at (codes "fit") tree))
    (optional_number_at (codes "lapse") tree))
    (optional_text_at (codes "round") tree))
    (optional_number_at (codes "bit") tree))
    (numbers_of tree))
    (place_of tree))
    (text_at (codes "type") tree))
    (text_at (codes "access") tree))
    (text_at (codes "name") tree)

-- ---- the words of a tag

abbrev pub access_words : List (List ℕ × Access)
access_words = (codes "in", access.Input) ∷ (codes "out", access.Output) ∷ (codes "set", access.Setting) ∷ (codes "site", access.Shown) ∷ []

abbrev pub access_of : List ℕ → Option Access
access_of word = option_map (λ e. e.1) (find (λ e. bytes_eq word e.0) access_words)

abbrev pub type_words : List (List ℕ × IlType)
type_words =
    (codes "BOOL", il.Bool) ∷ (codes "SINT", il.Sint) ∷ (codes "INT", il.Int) ∷ (codes "DINT", il.Dint) ∷
    (codes "LINT", il.Lint) ∷ (codes "USINT", il.Usint) ∷ (codes "UINT", il.Uint) ∷ (codes "UDINT", il.Udint) ∷ []

abbrev pub type_of : List ℕ → Option IlType
type_of word = option_map (λ e. e.1) (find (λ e. bytes_eq word e.0) type_words)

-- such a name is the presence of another one
abbrev pub ends_in_ok : List ℕ → Bool
ends_in_ok text = bytes_eq (drop (length text - 3) text) (codes "_ok")

-- a name in lower case
abbrev pub tag_name : List ℕ → Option (List ℕ)
tag_name text = option_and_then (λ name. if bytes_eq name text && not (ends_in_ok text) then Some name else None) (name_of text)

-- ---- what the access means

-- its point is a device's
abbrev pub is_polled : Access → Bool
is_polled access.Input = true
is_polled access.Output = true
is_polled other = false

-- its point is the gateway's own
abbrev pub is_own : Access → Bool
is_own access.Setting = true
is_own access.Shown = true
is_own other = false

abbrev pub is_input : Access → Bool
is_input access.Input = true
is_input other = false

-- clients write it
abbrev pub is_setting : Access → Bool
is_setting access.Setting = true
is_setting other = false

-- ---- where the point is

abbrev pub is_device_named : List ℕ → SiteDevice → Bool
is_device_named name d = bytes_eq name d.name

-- the number of the first device of a name
abbrev pub device_number : List SiteDevice → List ℕ → Option ℕ
device_number devices name = position (is_device_named name) devices

abbrev pub device_named : List SiteDevice → List ℕ → Result (Option ℕ) SiteFault
device_named devices name = ok_or (option_map Some (device_number devices name)) fault.UnknownDevice

-- the number of the tag's device: asked for where the point is a device's
abbrev pub device_for : List SiteDevice → Option Access → Option (List ℕ) → Result (Option ℕ) SiteFault
device_for devices None name = Ok None
device_for devices (Some a) name = if is_polled a then (ok_or name fault.MissingKey >>= device_named devices) else Ok None

-- the gateway's own models, or all that are defined
abbrev pub model_for : List ModelDef → List ModelDef → Option Access → ℤ → Option ModelDef
model_for own defs None id = definition_of defs id
model_for own defs (Some a) id = if is_polled a then definition_of defs id else find (has_id id) own

abbrev pub point_number : List ℕ → ModelDef → Option ℕ
point_number name model = position (λ p. bytes_eq p.name name) model.points

abbrev pub point_for : List ℕ → ModelDef → Option Point
point_for name model = option_and_then (slice_get model.points) (point_number name model)

abbrev pub may_be_written : Option Access → Bool → Bool
may_be_written None writable = true
may_be_written (Some a) writable = may_write a writable

-- ---- the ranges

-- low and high, and the default between them, in the type where it is known
abbrev pub has_range : Option IlType → ℤ → ℤ → ℤ → Bool
has_range None low high start = is_within low high start
has_range (Some kind) low high start = is_ranged kind low high start

abbrev pub exponent_of : ℤ → Option ℤ
exponent_of n = if is_within (neg_ℤ (pos 10)) (pos 10) n then Some n else None

-- the number of a bitfield's last bit that may be a tag; the top bit says that the point has no value
abbrev pub last_bit : Kind → Option ℕ
last_bit kinds.Bitfield16 = Some 14
last_bit kinds.Bitfield32 = Some 30
last_bit other = None

-- the bit of a bitfield; of another point it has no range
abbrev pub bit_of : Kind → Option ℤ → Option (Option ℕ)
bit_of point None = Some None
bit_of point (Some n) = option_map_or (λ last. option_map Some (natural_within last n)) (last_bit point) (Some None)

-- the seconds after which what a client set lapses, a day at most
abbrev pub lapse_of : Option ℤ → Option (Option ℕ)
lapse_of None = Some None
lapse_of (Some n) = if int_eq n (pos 0) then None else option_map Some (natural_within 86400 n)

-- the numbers of a tag that have limits of their own
pub record Measures : Type 0 where
  pub exponent : ℤ
  pub bit : Option ℕ
  pub lapse : Option ℕ

abbrev pub measures_within : Kind → ℤ → (bit lapse : Option ℤ) → Option Measures
measures_within point exponent bit lapse =
    option_and_then (λ e.
    option_and_then (λ b.
    option_map (λ l. record { exponent = e; bit = b; lapse = l })
    (lapse_of lapse))
    (bit_of point bit))
    (exponent_of exponent)

abbrev pub measures_of : Option IlType → Kind → Numbers → (bit lapse : Option ℤ) → Option Measures
measures_of kind point n bit lapse = if has_range kind n.low n.high (start_of n.low n.default) then measures_within point n.exponent bit lapse else None

-- ---- what goes together

abbrev pub is_numeric : Kind → Bool
is_numeric kinds.String = false
is_numeric kinds.Pad = false
is_numeric other = true

abbrev pub is_sunssf : Kind → Bool
is_sunssf kinds.Sunssf = true
is_sunssf other = false

-- a point of the gateway's own is no scale factor, and belongs to no device
abbrev pub is_place : Access → Option (List ℕ) → Kind → Bool
is_place a device point = is_numeric point && (is_polled a || (not (is_some device) && not (is_sunssf point)))

-- a bit is an input of type BOOL of a bitfield
abbrev pub is_bit_place : Access → IlType → Kind → Option ℤ → Bool
is_bit_place a kind point None = true
is_bit_place a kind point (Some n) = is_input a && (is_bool kind && is_some (last_bit point))

-- an input that is no bit may be rounded down
abbrev pub is_rounding : Access → Option ℤ → Option (List ℕ) → Bool
is_rounding a bit None = true
is_rounding a bit (Some word) = is_input a && (not (is_some bit) && bytes_eq word (codes "down"))

-- where what clients set lapses, a default takes its place
abbrev pub is_lapsing : Access → (default lapse : Option ℤ) → Bool
is_lapsing a default None = true
is_lapsing a default (Some n) = is_setting a && is_some default

abbrev pub is_output : Access → Bool
is_output access.Output = true
is_output other = false

-- where the point can't say a number, the next one below or above may be written in its place
abbrev pub is_fitting : Access → Option (List ℕ) → Bool
is_fitting a None = true
is_fitting a (Some word) = is_output a && (bytes_eq word (codes "down") || bytes_eq word (codes "up"))

-- by a word that is allowed
abbrev pub fit_by : Option (List ℕ) → Fit
fit_by None = fits.Exact
fit_by (Some word) = if bytes_eq word (codes "up") then fits.Up else fits.Down

-- it is written only where the `out` tag of this name is
abbrev pub is_companion : Access → Option (List ℕ) → Bool
is_companion a None = true
is_companion a (Some word) = is_output a && is_some (tag_name word)

abbrev pub goes_together : Access → IlType → Kind → TagKeys → Bool
goes_together a kind point keys =
    is_place a keys.place.device point && (is_bit_place a kind point keys.bit && (is_rounding a keys.bit keys.round && (is_lapsing a keys.numbers.default keys.lapse && (is_fitting a keys.fit && is_companion a keys.companion))))

-- ---- the tag

-- a tag, as its type in the program without what it proves of itself
pub record Tag : Type 0 where
  pub name : List ℕ
  pub access : Access
  pub kind : IlType
  pub low : ℤ
  pub high : ℤ
  pub default : Option ℤ
  pub exponent : ℤ
  pub bit : Option ℕ
  pub down : Bool
  pub lapse : Option ℕ
  pub fit : Fit
  pub companion : Option (List ℕ)
  pub device : Option ℕ
  pub model : ℕ
  pub point : Kind
  pub writable : Bool
  pub offset : ℕ
  pub sf : Sf

-- the offset of a point by its number
abbrev pub offset_at : ModelDef → ℕ → ℕ
offset_at model j = option_map_or (λ q. q.offset) (slice_get model.points j) 0

-- a factor by its offset where it is a point of the model
abbrev pub factor_in : ModelDef → PointSf → Sf
factor_in model scales.None = factors.None
factor_in model (scales.Fixed n) = factors.Fixed n
factor_in model (scales.At j) = factors.At (offset_at model j)

-- the tag of these words over a point
abbrev pub tag_over : TagKeys → Measures → Option ℕ → ModelDef → Point → List ℕ → Access → IlType → Tag
tag_over keys measures device model p name a kind = record {
  name = name;
  access = a;
  kind = kind;
  low = keys.numbers.low;
  high = keys.numbers.high;
  default = keys.numbers.default;
  exponent = measures.exponent;
  bit = measures.bit;
  down = is_some keys.round;
  lapse = measures.lapse;
  fit = fit_by keys.fit;
  companion = option_and_then tag_name keys.companion;
  device = device;
  model = model.id;
  point = p.kind;
  writable = p.writable;
  offset = p.offset;
  sf = factor_in model p.sf;
}

-- nothing where a word isn't allowed
abbrev pub tag_typed : TagKeys → Measures → Option ℕ → ModelDef → Point → Option Tag
tag_typed keys measures device model p =
    option_and_then (λ name.
    option_and_then (λ a.
    option_and_then (λ kind.
    if goes_together a kind p.kind keys then Some (tag_over keys measures device model p name a kind) else None)
    (type_of keys.kind))
    (access_of keys.access))
    (tag_name keys.name)

-- ---- what is used already

-- both are `out`, or both are points of the gateway's own
abbrev pub is_same_side : Access → Access → Bool
is_same_side access.Output access.Output = true
is_same_side access.Output b = false
is_same_side a b = is_own a && is_own b

abbrev pub is_same_device : Option ℕ → Option ℕ → Bool
is_same_device None None = true
is_same_device (Some i) (Some j) = nat_eq i j
is_same_device i j = false

abbrev pub is_same_point : Tag → Tag → Bool
is_same_point t u = is_same_side t.access u.access && (is_same_device t.device u.device && (nat_eq t.model u.model && nat_eq t.offset u.offset))

abbrev pub clashes : Tag → Tag → Bool
clashes t u = bytes_eq t.name u.name || is_same_point t u

-- the gateway's own ID and length
abbrev pub is_on_heading : Tag → Bool
is_on_heading t = is_own t.access && nat_lt t.offset 2

-- ---- the tags

-- where the tag's point is, then its ranges, then its words
abbrev pub tag_placed : List ModelDef → List ModelDef → TagKeys → Option ℕ → Result Tag SiteFault
tag_placed own defs keys device =
    ok_or (model_for own defs (access_of keys.access) keys.place.model) fault.UnknownModel >>= λ model.
    ok_or (point_for keys.place.point model) fault.UnknownPoint >>= λ p.
    (if may_be_written (access_of keys.access) p.writable then
    (ok_or (measures_of (type_of keys.kind) p.kind keys.numbers keys.bit keys.lapse) fault.BadRange >>= λ measures.
    ok_or (tag_typed keys measures device model p) fault.BadType) else Err fault.NotWritable)

-- a tag over a point, after those before it, or the first rule that is broken
abbrev pub point_tag_of : List SiteDevice → List ModelDef → List ModelDef → List Tag → Data → Result Tag SiteFault
point_tag_of devices own defs seen tree =
    ok_or (tag_keys tree) fault.MissingKey >>= λ keys.
    device_for devices (access_of keys.access) keys.place.device >>= λ device.
    tag_placed own defs keys device >>= λ t.
    (if is_on_heading t || list_any (clashes t) seen then Err fault.Duplicate else Ok t)

-- ---- the time since the scan before, which has no point

abbrev pub is_time : Data → Bool
is_time tree = option_map_or (λ word. bytes_eq word (codes "time")) (text_at (codes "access") tree) false

pub record TimeKeys : Type 0 where
  pub name : List ℕ
  pub kind : List ℕ
  pub low : ℤ
  pub high : ℤ

-- nothing where a key is missing or of another kind
abbrev pub time_keys : Data → Option TimeKeys
time_keys tree =
    option_and_then (λ name.
    option_and_then (λ kind.
    option_and_then (λ low.
    option_map (λ high. record { name = name; kind = kind; low = low; high = high })
    (number_at (codes "high") tree))
    (number_at (codes "low") tree))
    (text_at (codes "type") tree))
    (text_at (codes "name") tree)

abbrev pub has_key : Data → List ℕ → Bool
has_key tree key = is_some (get key tree)

-- the keys that speak of a point, and of what it is worth while it has no value
abbrev pub point_words : List (List ℕ)
point_words = codes "device" ∷ codes "model" ∷ codes "point" ∷ codes "exponent" ∷ codes "default" ∷ codes "bit" ∷ codes "round" ∷ codes "lapse" ∷ codes "fit" ∷ codes "with" ∷ []

abbrev pub has_point_words : Data → Bool
has_point_words tree = list_any (has_key tree) point_words

-- no time is negative
abbrev pub has_time_range : Option IlType → TimeKeys → Bool
has_time_range kind keys = int_le (pos 0) keys.low && has_range kind keys.low keys.high keys.low

-- it always has a number, and is worth its least one at least
abbrev pub time_over : TimeKeys → List ℕ → IlType → Tag
time_over keys name kind = record {
  name = name;
  access = access.Time;
  kind = kind;
  low = keys.low;
  high = keys.high;
  default = Some keys.low;
  exponent = pos 0;
  bit = None;
  down = false;
  lapse = None;
  fit = fits.Exact;
  companion = None;
  device = None;
  model = 0;
  point = kinds.Uint32;
  writable = false;
  offset = 0;
  sf = factors.None;
}

-- nothing where a word isn't allowed
abbrev pub time_typed : TimeKeys → Option Tag
time_typed keys =
    option_and_then (λ name.
    option_and_then (λ kind. if is_bool kind then None else Some (time_over keys name kind)) (type_of keys.kind))
    (tag_name keys.name)

-- its ranges, then its words
abbrev pub time_placed : TimeKeys → Bool → Result Tag SiteFault
time_placed keys has_point =
    if has_time_range (type_of keys.kind) keys then (if has_point then Err fault.BadType else ok_or (time_typed keys) fault.BadType) else Err fault.BadRange

-- such a tag after those before it, or the first rule that is broken
abbrev pub time_tag_of : List Tag → Data → Result Tag SiteFault
time_tag_of seen tree =
    ok_or (time_keys tree) fault.MissingKey >>= λ keys.
    time_placed keys (has_point_words tree) >>= λ t.
    (if list_any (clashes t) seen then Err fault.Duplicate else Ok t)

-- ---- all tags

abbrev pub tag_of : List SiteDevice → List ModelDef → List ModelDef → List Tag → Data → Result Tag SiteFault
tag_of devices own defs seen tree = if is_time tree then time_tag_of seen tree else point_tag_of devices own defs seen tree

-- the tags in order
abbrev pub tags_behind : List SiteDevice → List ModelDef → List ModelDef → List Tag → Items → Result (List Tag) SiteFault
tags_behind devices own defs seen no_items = Ok seen
tags_behind devices own defs seen (item tree trees) = tag_of devices own defs seen tree >>= λ t. tags_behind devices own defs (seen ++ t ∷ []) trees
