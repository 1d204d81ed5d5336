-- Which plant a TOML file stands for, and which rule a file breaks first.
-- TOML 1.0; SunSpec Device Information Model Specification, device modbus maps.
use Rattle.std.specs.Prelude.{◌≡◌, ◌⊎◌, ℕ, ◌+◌, ◌==◌, ◌^◌, nat_le, nat_lt, Bool, true, false, not, ◌&&◌, ◌||◌, List, [], ◌∷◌, ◌++◌, map, reverse, find, sum_by, ℤ, pos, neg_ℤ, ◌+ℤ◌, ◌-ℤ◌, int_le, unsigned_abs, Option, None, Some, option_map, option_and_then, Result, Ok, Err, if◌then◌else◌, codes}
use Rattle.std.specs.Int.{int_rem_euclid}
use Rattle.std.specs.List.{list_any, list_all}
use Rattle.std.specs.Ordering.{int_eq}
use Rattle.std.specs.Option.{ok_or, option_map_or}
use Rattle.std.specs.Str.{bytes_eq}
use Rattle.toml.specs.Data.{Data, Items, Members, no_items, item, table, as_integer}
use Rattle.toml.specs.Parse.{parse_document}
use Rattle.file_keys.specs.Keys.{number_at, number_or, optional_number_at, text_at, optional_text_at, list_at, section_at, count, has_over}
use Rattle.point_types.specs.Value.{◌>>=◌}
use Rattle.point_types.specs.Point.{row_of}
use Rattle.point_types.specs.declared.kind.Kind.{Kind}
use Rattle.point_types.specs.declared.kind.Kind.TheVariants as kinds
use Rattle.model_defs.specs.declared.model.ModelDef.{ModelDef}
use Rattle.model_defs.specs.declared.point.Point.{Point}
use Rattle.inverter_sim.specs.declared.device_kind.DeviceKind.{DeviceKind}
use Rattle.inverter_sim.specs.declared.device_kind.DeviceKind.TheVariants as kind
use Rattle.inverter_sim.specs.declared.fault.PlantFault.{PlantFault}
use Rattle.inverter_sim.specs.declared.fault.PlantFault.TheVariants as fault
use Rattle.inverter_sim.specs.declared.misbehaviour.Fault.{Fault}
use Rattle.inverter_sim.specs.declared.misbehaviour.Misbehaviour.{Misbehaviour}
use Rattle.inverter_sim.specs.declared.misbehaviour.Misbehaviour.TheVariants as wrong
use Rattle.inverter_sim.specs.declared.works.Works.{Works}
use Rattle.inverter_sim.specs.declared.works.Works.TheVariants as works
use Rattle.inverter_sim.specs.State.{DeviceState, PlantState}
use Rattle.inverter_sim.specs.Image.{image_of, places_of, placed, point_named, inverter_points, meter_points, split, stored}

-- ---- keys

-- a list of whole numbers
abbrev pub integers_in : Items → Option (List ℤ)
integers_in no_items = Some []
integers_in (item tree trees) = option_and_then (λ n. option_map (λ ns. n ∷ ns) (integers_in trees)) (as_integer tree)

abbrev pub integers_at : List ℕ → Data → Option (List ℤ)
integers_at key tree = option_and_then integers_in (list_at key tree)

-- ---- numbers of entries

abbrev pub any_of : (Data → Bool) → Items → Bool
any_of test no_items = false
any_of test (item tree trees) = test tree || any_of test trees

-- the entry of a meter
abbrev pub is_meter_entry : Data → Bool
is_meter_entry tree = option_map_or (λ word. bytes_eq word (codes "meter")) (text_at (codes "kind") tree) false

abbrev pub works_has_too_many : Data → Bool
works_has_too_many tree =
    if is_meter_entry tree then has_over 1024 (codes "load") tree || has_over 64 (codes "behind") tree else
    has_over 1024 (codes "available") tree

abbrev pub device_has_too_many : Data → Bool
device_has_too_many tree = has_over 16 (codes "models") tree || works_has_too_many tree

-- more devices, or models, watts or units of a device, than a plant has, wherever in the file
abbrev pub has_too_many : Data → Bool
has_too_many tree = has_over 64 (codes "device") tree || option_map_or (any_of device_has_too_many) (list_at (codes "device") tree) false

-- ---- a device

abbrev pub is_in : ℤ → ℤ → ℤ → Bool
is_in lowest highest n = int_le lowest n && int_le n highest

-- the kind of a device by its word
abbrev pub kind_named : List ℕ → Option DeviceKind
kind_named word = if bytes_eq word (codes "inverter") then Some kind.Inverter else (if bytes_eq word (codes "meter") then Some kind.Meter else None)

-- a device without a word is an inverter
abbrev pub kind_of : Data → Result DeviceKind PlantFault
kind_of tree =
    ok_or (optional_text_at (codes "kind") tree) fault.MissingKey >>= λ word.
    ok_or (option_map_or kind_named word (Some kind.Inverter)) fault.BadRange

-- the keys that an inverter has, and those that a meter has
pub data WorksKeys : Type 0 where
  inverter : (wmax : ℤ) (available : List ℤ) (ramp : Option ℤ) → WorksKeys
  meter : (load behind : List ℤ) → WorksKeys

pub record PlantDeviceKeys : Type 0 where
  pub unit : ℤ
  pub models : List ℤ
  pub works : WorksKeys
  pub base : ℤ
  pub slow : ℤ

-- nothing where a key is missing or of another kind
abbrev pub works_keys : DeviceKind → Data → Option WorksKeys
works_keys kind.Inverter tree =
    option_and_then (λ wmax.
    option_and_then (λ available.
    option_map (λ ramp. inverter wmax available ramp)
    (optional_number_at (codes "ramp") tree))
    (integers_at (codes "available") tree))
    (number_at (codes "wmax") tree)
works_keys kind.Meter tree =
    option_and_then (λ load.
    option_map (λ behind. meter load behind)
    (integers_at (codes "behind") tree))
    (integers_at (codes "load") tree)

abbrev pub keys_of : DeviceKind → Data → Option PlantDeviceKeys
keys_of kind tree =
    option_and_then (λ unit.
    option_and_then (λ models.
    option_and_then (λ works.
    option_and_then (λ base.
    option_map (λ slow. record { unit = unit; models = models; works = works; base = base; slow = slow })
    (number_or (codes "slow") (pos 0) tree))
    (number_or (codes "base") (pos 40000) tree))
    (works_keys kind tree))
    (integers_at (codes "models") tree))
    (number_at (codes "unit") tree)

-- the kind comes first, since it says which keys there are
abbrev pub device_keys : Data → Result PlantDeviceKeys PlantFault
device_keys tree = kind_of tree >>= λ kind. ok_or (keys_of kind tree) fault.MissingKey

-- of two definitions with one id the last one counts
abbrev pub definition_of : List ModelDef → ℤ → Option ModelDef
definition_of defs n = find (λ d. int_eq (pos d.id) n) (reverse defs)

abbrev pub definitions_of : List ModelDef → List ℤ → Option (List ModelDef)
definitions_of defs [] = Some []
definitions_of defs (n ∷ ns) = option_and_then (λ d. option_map (λ ds. d ∷ ds) (definitions_of defs ns)) (definition_of defs n)

abbrev pub begins_with_one : List ℤ → Bool
begins_with_one [] = false
begins_with_one (n ∷ ns) = int_eq n (pos 1)

-- some watts, each in 0..1,000,000
abbrev pub are_watts : List ℤ → Bool
are_watts [] = false
are_watts (n ∷ ns) = list_all (is_in (pos 0) (pos 1000000)) (n ∷ ns)

-- the registers of the mark, the models and the end model
abbrev pub map_length : List ModelDef → ℕ
map_length models = 4 + sum_by (λ m. m.length + 2) models

-- the base is in 0..65534, and the map ends at 65535 at most
abbrev pub has_room : ℤ → List ModelDef → Bool
has_room base models = is_in (pos 0) (pos 65534) base && nat_le (unsigned_abs base + map_length models) 65536

abbrev pub is_inverter : Works → Bool
is_inverter (works.Inverter i) = true
is_inverter (works.Meter m) = false

-- the unit of an inverter before it
abbrev pub is_inverter_of : List DeviceState → ℤ → Bool
is_inverter_of seen unit = list_any (λ d. is_inverter d.works && int_eq (pos d.unit) unit) seen

-- some watts, units of inverters before it, and a meter model
abbrev pub is_in_works_range : List DeviceState → List ℤ → WorksKeys → Bool
is_in_works_range seen models (inverter wmax available ramp) = is_in (pos 0) (pos 1000000) wmax && (are_watts available && option_map_or (is_in (pos 0) (pos 1000000)) ramp true)
is_in_works_range seen models (meter load behind) = are_watts load && (list_all (is_inverter_of seen) behind && list_any (is_in (pos 201) (pos 204)) models)

abbrev pub is_in_range : List DeviceState → PlantDeviceKeys → List ModelDef → Bool
is_in_range seen keys models =
    is_in (pos 0) (pos 255) keys.unit && (begins_with_one keys.models && (has_room keys.base models && (is_in (pos 0) (pos 60000) keys.slow && is_in_works_range seen keys.models keys.works)))

abbrev pub has_repeat : List ℤ → Bool
has_repeat [] = false
has_repeat (n ∷ ns) = list_any (int_eq n) ns || has_repeat ns

abbrev pub works_has_repeat : WorksKeys → Bool
works_has_repeat (inverter wmax available ramp) = false
works_has_repeat (meter load behind) = has_repeat behind

-- a unit that a device before it has, a model twice, or an inverter twice
abbrev pub is_duplicate : List DeviceState → PlantDeviceKeys → Bool
is_duplicate seen keys = list_any (λ d. int_eq (pos d.unit) keys.unit) seen || (has_repeat keys.models || works_has_repeat keys.works)

-- nothing is produced before the first tick
abbrev pub first_works : List ModelDef → WorksKeys → Works
first_works models (inverter wmax available ramp) =
    works.Inverter (record { wmax = unsigned_abs wmax; available = map unsigned_abs available; ramp = option_map unsigned_abs ramp; produced = 0; points = inverter_points models })
first_works models (meter load behind) =
    works.Meter (record { load = map unsigned_abs load; behind = map unsigned_abs behind; points = meter_points models })

-- the device before its points have values
abbrev pub blank_device : PlantDeviceKeys → List ModelDef → DeviceState
blank_device keys models = record {
  unit = unsigned_abs keys.unit;
  base = unsigned_abs keys.base;
  works = first_works models keys.works;
  registers = image_of models;
  places = places_of models;
  slow = unsigned_abs keys.slow;
}

-- ---- the values of its points

pub record ValueKeys : Type 0 where
  pub model : ℤ
  pub point : List ℕ
  pub raw : ℤ

abbrev pub value_keys : Data → Option ValueKeys
value_keys tree =
    option_and_then (λ model.
    option_and_then (λ point.
    option_map (λ raw. record { model = model; point = point; raw = raw })
    (number_at (codes "raw") tree))
    (text_at (codes "point") tree))
    (number_at (codes "model") tree)

abbrev pub is_signed : Kind → Bool
is_signed kinds.Int16 = true
is_signed kinds.Sunssf = true
is_signed kinds.Int32 = true
is_signed kinds.Int64 = true
is_signed other = false

-- a number that registers can stand for, where they have so many words: -32768..32767 or 0..65535 in one register
abbrev pub is_spelled : Bool → ℤ → ℤ → Bool
is_spelled true words raw = int_le (neg_ℤ words) (raw +ℤ raw) && int_le (raw +ℤ raw) (words -ℤ pos 1)
is_spelled false words raw = int_le (pos 0) raw && int_le raw (words -ℤ pos 1)

-- its number in two's complement
abbrev pub wrapped : ℕ → ℤ → ℕ
wrapped words raw = unsigned_abs (int_rem_euclid raw (pos words))

abbrev pub spelled : Bool → ℕ → ℤ → Option (List ℕ)
spelled signed size raw = if is_spelled signed (pos (65536 ^ size)) raw then Some (split size (wrapped (65536 ^ size) raw)) else None

-- the words of a number, which may be the unimplemented ones; nothing for a string
abbrev pub words_of_kind : Kind → ℤ → Option (List ℕ)
words_of_kind k raw = option_and_then (λ r. spelled (is_signed k) r.registers raw) (row_of k)

-- nothing for ID and L, which stand in the first two registers
abbrev pub words_of_point : Point → ℤ → Option (List ℕ)
words_of_point p raw = if nat_lt p.offset 2 then None else words_of_kind p.kind raw

-- the registers so far, and where the values so far begin
pub record Valued : Type 0 where
  pub registers : List ℕ
  pub seen : List ℕ

-- two values of one point begin at one register
abbrev pub valued_at : Valued → ℕ → List ℕ → Result Valued PlantFault
valued_at v at words = if list_any (λ s. s == at) v.seen then Err fault.Duplicate else Ok (record { registers = stored at words v.registers; seen = v.seen ++ at ∷ [] })

abbrev pub valued_by : List ModelDef → Valued → ValueKeys → Result Valued PlantFault
valued_by models v keys =
    ok_or (placed keys.model keys.model models) fault.UnknownModel >>= λ m.
    ok_or (point_named keys.point m.model) fault.UnknownPoint >>= λ p.
    ok_or (words_of_point p keys.raw) fault.BadRange >>= valued_at v (m.at + p.offset)

abbrev pub valued : List ModelDef → Valued → Data → Result Valued PlantFault
valued models v tree = ok_or (value_keys tree) fault.MissingKey >>= valued_by models v

abbrev pub valued_all : List ModelDef → Valued → Items → Result Valued PlantFault
valued_all models v no_items = Ok v
valued_all models v (item tree trees) = valued models v tree >>= λ next. valued_all models next trees

-- the registers when all values are given
abbrev pub values_of : List ModelDef → List ℕ → Data → Result (List ℕ) PlantFault
values_of models registers tree =
    ok_or (section_at (codes "value") tree) fault.MissingKey >>= λ trees.
    valued_all models (record { registers = registers; seen = [] }) trees >>= λ v.
    Ok v.registers

-- ---- a device with its values

abbrev pub checked : List DeviceState → PlantDeviceKeys → List ModelDef → Result DeviceState PlantFault
checked seen keys models =
    if not (is_in_range seen keys models) then Err fault.BadRange else
    (if is_duplicate seen keys then Err fault.Duplicate else Ok (blank_device keys models))

abbrev pub device_of : List ModelDef → List DeviceState → Data → Result DeviceState PlantFault
device_of defs seen tree =
    device_keys tree >>= λ keys.
    ok_or (definitions_of defs keys.models) fault.UnknownModel >>= λ models.
    checked seen keys models >>= λ d.
    values_of models d.registers tree >>= λ registers.
    Ok (record d { registers = registers })

abbrev pub devices_from : List ModelDef → List DeviceState → Items → Result (List DeviceState) PlantFault
devices_from defs seen no_items = Ok seen
devices_from defs seen (item tree trees) = device_of defs seen tree >>= λ d. devices_from defs (seen ++ d ∷ []) trees

abbrev pub devices_of : List ModelDef → Data → Result (List DeviceState) PlantFault
devices_of defs tree = ok_or (section_at (codes "device") tree) fault.MissingKey >>= devices_from defs []

-- ---- the faults of a plant

-- the key that a kind of fault has of its own
abbrev pub own_key : List ℕ → Option (List ℕ)
own_key kind =
    if bytes_eq kind (codes "exception") then Some (codes "code") else
    (if bytes_eq kind (codes "stale") then Some (codes "count") else
    (if bytes_eq kind (codes "garbage") then Some (codes "word") else
    (if bytes_eq kind (codes "cut") then Some (codes "bytes") else None)))

-- its number; 0 for a kind without one
abbrev pub own_number : List ℕ → Data → Option ℤ
own_number kind tree = option_map_or (λ key. number_at key tree) (own_key kind) (Some (pos 0))

pub record FaultKeys : Type 0 where
  pub request : ℤ
  pub kind : List ℕ
  pub number : ℤ

abbrev pub fault_keys : Data → Option FaultKeys
fault_keys tree =
    option_and_then (λ request.
    option_and_then (λ kind.
    option_map (λ number. record { request = request; kind = kind; number = number })
    (own_number kind tree))
    (text_at (codes "kind") tree))
    (number_at (codes "request") tree)

-- nothing where the number is outside its limits, or for another kind
abbrev pub misbehaviour_of : List ℕ → ℤ → Option Misbehaviour
misbehaviour_of kind n =
    if bytes_eq kind (codes "exception") then (if is_in (pos 1) (pos 255) n then Some (wrong.Exception (unsigned_abs n)) else None) else
    (if bytes_eq kind (codes "stale") then (if is_in (pos 1) (pos 100) n then Some (wrong.Stale (unsigned_abs n)) else None) else
    (if bytes_eq kind (codes "garbage") then (if is_in (pos 0) (pos 65535) n then Some (wrong.Garbage (unsigned_abs n)) else None) else
    (if bytes_eq kind (codes "length") then Some wrong.Length else
    (if bytes_eq kind (codes "cut") then (if is_in (pos 0) (pos 259) n then Some (wrong.Cut (unsigned_abs n)) else None) else None))))

-- the number of the frame, in 1..1,000,000
abbrev pub request_of : ℤ → Option ℕ
request_of n = if is_in (pos 1) (pos 1000000) n then Some (unsigned_abs n) else None

-- two faults of one request
abbrev pub not_seen : List Fault → Fault → Result Fault PlantFault
not_seen seen f = if list_any (λ s. s.request == f.request) seen then Err fault.Duplicate else Ok f

abbrev pub fault_by : List Fault → FaultKeys → Result Fault PlantFault
fault_by seen keys =
    ok_or (request_of keys.request) fault.BadRange >>= λ request.
    ok_or (misbehaviour_of keys.kind keys.number) fault.BadRange >>= λ kind.
    not_seen seen (record { request = request; kind = kind })

abbrev pub fault_of : List Fault → Data → Result Fault PlantFault
fault_of seen tree = ok_or (fault_keys tree) fault.MissingKey >>= fault_by seen

abbrev pub faults_from : List Fault → Items → Result (List Fault) PlantFault
faults_from seen no_items = Ok seen
faults_from seen (item tree trees) = fault_of seen tree >>= λ f. faults_from (seen ++ f ∷ []) trees

abbrev pub faults_in : Items → Result (List Fault) PlantFault
faults_in trees = if nat_lt 256 (count trees) then Err fault.TooMany else faults_from [] trees

abbrev pub faults_of : Data → Result (List Fault) PlantFault
faults_of tree = ok_or (section_at (codes "fault") tree) fault.MissingKey >>= faults_in

-- ---- the plant

abbrev pub first_unit : List DeviceState → Option ℕ
first_unit [] = None
first_unit (d ∷ ds) = Some d.unit

-- In a plant without a meter the first device's requests tick it; else that is open.
abbrev pub first_pace : List DeviceState → Option ℕ
first_pace devices = if list_all (λ d. is_inverter d.works) devices then first_unit devices else None

-- The plant of a tree, or the first rule that it breaks: the numbers of devices, models, watts and units; each device's
-- kind, keys, models, ranges and duplicates, then its values one by one; the faults one by one.
abbrev pub plant_of : List ModelDef → Data → Result PlantState PlantFault
plant_of defs tree =
    if has_too_many tree then Err fault.TooMany else
    (devices_of defs tree >>= λ devices.
    faults_of tree >>= λ faults.
    Ok (record { devices = devices; faults = faults; frames = 0; pace = first_pace devices }))

-- The text is TOML, and its tree stands for this plant.
abbrev pub StandsFor : List ModelDef → List ℕ → PlantState → Type 0
StandsFor defs text plant = (members : Members) × (parse_document text ≡ Some members) × (plant_of defs (table members) ≡ Ok plant)

-- The text is no TOML, or this is the first rule that its tree breaks.
abbrev pub Breaks : List ModelDef → List ℕ → PlantFault → Type 0
Breaks defs text e = ((e ≡ fault.NotToml) × (parse_document text ≡ None)) ⊎ ((members : Members) × (parse_document text ≡ Some members) × (plant_of defs (table members) ≡ Err e))
