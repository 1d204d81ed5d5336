-- The registers that a device has before anything is written: the mark, its models, the end model.
-- SunSpec Device Information Model Specification, device modbus maps and the table of types.
use Rattle.std.specs.Prelude.{ℕ, zero, suc, ◌+◌, ◌/◌, ◌%◌, ◌==◌, nat_le, Bool, true, false, ◌&&◌, List, [], ◌∷◌, ◌++◌, length, slice_get, slice_set, ℤ, pos, int_le, Option, None, Some, option_map, option_and_then, if◌then◌else◌, codes}
use Rattle.std.specs.List.{flat_map, position}
use Rattle.std.specs.Option.{option_map_or}
use Rattle.std.specs.Str.{bytes_eq}
use Rattle.point_types.specs.Point.{row_of}
use Rattle.point_types.specs.declared.kind.Kind.{Kind}
use Rattle.point_types.specs.declared.kind.Kind.TheVariants as kinds
use Rattle.model_defs.specs.declared.model.ModelDef.{ModelDef}
use Rattle.model_defs.specs.declared.point.Point.{Point}
use Rattle.model_defs.specs.declared.point.Sf.{Sf}
use Rattle.model_defs.specs.declared.point.Sf.TheVariants as factors
use Rattle.inverter_sim.specs.declared.place.RegisterPlace.{RegisterPlace}
use Rattle.inverter_sim.specs.declared.points.FlowPoints.{FlowPoints}
use Rattle.inverter_sim.specs.declared.points.InverterPoints.{InverterPoints}
use Rattle.inverter_sim.specs.declared.points.MeterPoints.{MeterPoints}
use Rattle.inverter_sim.specs.declared.points.Phases.{Phases}
use Rattle.inverter_sim.specs.declared.points.Phases.TheVariants as phases
use Rattle.inverter_sim.specs.declared.points.Scale.{Scale}
use Rattle.inverter_sim.specs.declared.points.Scale.TheVariants as scale

-- ---- the words of the registers

-- a number in so many registers, the most significant one first
abbrev pub split : ℕ → ℕ → List ℕ
split zero n = []
split (suc k) n = split k (n / 65536) ++ (n % 65536) ∷ []

-- the unimplemented words of a kind; a string has none of its own
abbrev pub unimplemented : Kind → List ℕ
unimplemented k = option_map_or (λ r. split r.registers r.unimplemented) (row_of k) []

-- so many registers with these words, and zeros after them
abbrev pub first : List ℕ → ℕ
first [] = 0
first (w ∷ words) = w

abbrev pub behind : List ℕ → List ℕ
behind [] = []
behind (w ∷ words) = words

abbrev pub padded : ℕ → List ℕ → List ℕ
padded zero words = []
padded (suc n) words = first words ∷ padded n (behind words)

-- a point without a value: the unimplemented words, a string's zeros
abbrev pub blank_words : Point → List ℕ
blank_words p = padded p.size (unimplemented p.kind)

-- the words stand from this register on
abbrev pub stored : ℕ → List ℕ → List ℕ → List ℕ
stored at [] registers = registers
stored at (w ∷ words) registers = stored (at + 1) words (slice_set registers at w)

-- the model after these registers: points without values, and its ID and length in the first two registers
abbrev pub with_model : List ℕ → ModelDef → List ℕ
with_model registers m = stored (length registers) (m.id ∷ m.length ∷ []) (registers ++ flat_map blank_words m.points)

abbrev pub with_models : List ℕ → List ModelDef → List ℕ
with_models registers [] = registers
with_models registers (m ∷ ms) = with_models (with_model registers m) ms

-- "SunS"
abbrev pub mark : List ℕ
mark = 0x5375 ∷ 0x6E53 ∷ []

-- the end model: its ID, and length 0
abbrev pub end_model : List ℕ
end_model = 0xFFFF ∷ 0 ∷ []

abbrev pub image_of : List ModelDef → List ℕ
image_of models = with_models mark models ++ end_model

-- ---- what the registers belong to

-- the registers of a point, of which so many stand before these
abbrev pub places_from : Bool → ℕ → ℕ → List RegisterPlace
places_from writable before zero = []
places_from writable before (suc behind) = record { writable = writable; before = before; behind = behind } ∷ places_from writable (before + 1) behind

abbrev pub places_of_point : Point → List RegisterPlace
places_of_point p = places_from p.writable 0 p.size

abbrev pub places_of_model : ModelDef → List RegisterPlace
places_of_model m = flat_map places_of_point m.points

-- nobody writes the mark and the end model
abbrev pub fixed_pair : List RegisterPlace
fixed_pair = places_from false 0 2

abbrev pub places_of : List ModelDef → List RegisterPlace
places_of models = (fixed_pair ++ flat_map places_of_model models) ++ fixed_pair

-- ---- where the models and their points lie

-- a model of a device, and where its ID stands, counted from the base
pub record PlacedModel : Type 0 where
  pub at : ℕ
  pub model : ModelDef

-- the first model with an ID from lowest to highest, where the first model's ID stands here
abbrev pub placed_from : ℕ → ℤ → ℤ → List ModelDef → Option PlacedModel
placed_from at lowest highest [] = None
placed_from at lowest highest (m ∷ ms) = if int_le lowest (pos m.id) && int_le (pos m.id) highest then Some (record { at = at; model = m }) else placed_from (at + (m.length + 2)) lowest highest ms

abbrev pub placed : ℤ → ℤ → List ModelDef → Option PlacedModel
placed lowest highest models = placed_from 2 lowest highest models

-- the point of a name
abbrev pub point_named : List ℕ → ModelDef → Option Point
point_named name m = option_and_then (slice_get m.points) (position (λ p. bytes_eq p.name name) m.points)

abbrev pub is_int16 : Kind → Bool
is_int16 kinds.Int16 = true
is_int16 other = false

abbrev pub is_uint16 : Kind → Bool
is_uint16 kinds.Uint16 = true
is_uint16 other = false

abbrev pub is_enum16 : Kind → Bool
is_enum16 kinds.Enum16 = true
is_enum16 other = false

abbrev pub is_sunssf : Kind → Bool
is_sunssf kinds.Sunssf = true
is_sunssf other = false

-- the point of a name, where its kind is the one that is wanted
abbrev pub point_of_kind : (Kind → Bool) → List ℕ → PlacedModel → Option Point
point_of_kind is_kind name m = option_and_then (λ p. if is_kind p.kind then Some p else None) (point_named name m.model)

-- its first register, counted from the base
abbrev pub register_of : (Kind → Bool) → List ℕ → PlacedModel → Option ℕ
register_of is_kind name m = option_map (λ p. m.at + p.offset) (point_of_kind is_kind name m)

-- what scales a point of a model
abbrev pub scale_by : PlacedModel → Sf → Scale
scale_by m factors.None = scale.Fixed (pos 0)
scale_by m (factors.Fixed n) = scale.Fixed n
scale_by m (factors.At i) = option_map_or (λ q. scale.At (m.at + q.offset)) (slice_get m.model.points i) (scale.Fixed (pos 0))

abbrev pub scale_of : List ℕ → PlacedModel → Scale
scale_of name m = option_map_or (λ p. scale_by m p.sf) (point_named name m.model) (scale.Fixed (pos 0))

-- The points of the rule of ticks: of an inverter W, W_SF and St of the first of models 101 to 103, and Conn, WMaxLim_Ena
-- and WMaxLimPct of model 123; of a meter W, A and those of its phases, their factors, PhV and V_SF of the first of models
-- 201 to 204.
abbrev pub inverter_points_of : Option PlacedModel → Option PlacedModel → InverterPoints
inverter_points_of inverter controls = record {
  inverter = option_map (λ m. m.at) inverter;
  watts = option_and_then (register_of is_int16 (codes "W")) inverter;
  watts_scale = option_and_then (register_of is_sunssf (codes "W_SF")) inverter;
  state = option_and_then (register_of is_enum16 (codes "St")) inverter;
  connected = option_and_then (register_of is_enum16 (codes "Conn")) controls;
  limited = option_and_then (register_of is_enum16 (codes "WMaxLim_Ena")) controls;
  limit = option_and_then (register_of is_uint16 (codes "WMaxLimPct")) controls;
  limit_scale = option_map_or (scale_of (codes "WMaxLimPct")) controls (scale.Fixed (pos 0));
}

abbrev pub inverter_points : List ModelDef → InverterPoints
inverter_points models = inverter_points_of (placed (pos 101) (pos 103) models) (placed (pos 123) (pos 123) models)

-- model 201 counts one phase, 202 two, 203 and 204 three
abbrev pub phases_of : PlacedModel → Phases
phases_of m = if m.model.id == 201 then phases.One else (if m.model.id == 202 then phases.Two else phases.Three)

abbrev pub number_of : Phases → ℕ
number_of phases.One = 1
number_of phases.Two = 2
number_of phases.Three = 3

-- the meter model, where it counts so many phases
abbrev pub counting : ℕ → Option PlacedModel → Option PlacedModel
counting n meter = option_and_then (λ m. if nat_le n (number_of (phases_of m)) then Some m else None) meter

-- the points of these names
abbrev pub flow_points_of : List ℕ → List ℕ → Option PlacedModel → FlowPoints
flow_points_of watts current meter = record {
  watts = option_and_then (register_of is_int16 watts) meter;
  current = option_and_then (register_of is_int16 current) meter;
}

abbrev pub meter_points_of : Option PlacedModel → MeterPoints
meter_points_of meter = record {
  meter = option_map (λ m. m.at) meter;
  phases = option_map_or phases_of meter phases.One;
  whole = flow_points_of (codes "W") (codes "A") meter;
  phase_a = flow_points_of (codes "WphA") (codes "AphA") meter;
  phase_b = flow_points_of (codes "WphB") (codes "AphB") (counting 2 meter);
  phase_c = flow_points_of (codes "WphC") (codes "AphC") (counting 3 meter);
  watts_scale = option_and_then (register_of is_sunssf (codes "W_SF")) meter;
  current_scale = option_and_then (register_of is_sunssf (codes "A_SF")) meter;
  voltage = option_and_then (register_of is_int16 (codes "PhV")) meter;
  voltage_scale = option_and_then (register_of is_sunssf (codes "V_SF")) meter;
}

abbrev pub meter_points : List ModelDef → MeterPoints
meter_points models = meter_points_of (placed (pos 201) (pos 204) models)
