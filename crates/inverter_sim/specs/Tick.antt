-- What a tick does to a plant: the watts that its inverters produce and their states, and what its meters show of that.
-- SunSpec inverter models 101 to 103 (W, W_SF, St), 123, immediate controls (Conn, WMaxLim_Ena, WMaxLimPct), and meter
-- models 201 to 204 (W, WphA to WphC, W_SF, A, AphA to AphC, A_SF, PhV, V_SF).
use Rattle.std.specs.Prelude.{ℕ, ◌+◌, ◌-◌, ◌*◌, ◌/◌, ◌^◌, ◌==◌, nat_le, nat_lt, min, max, Bool, false, ◌&&◌, List, [], ◌∷◌, map, sum_by, slice_get, slice_set, ℤ, pos, neg_ℤ, ◌+ℤ◌, ◌-ℤ◌, ◌*ℤ◌, int_le, unsigned_abs, Option, None, Some, option_map, option_and_then, if◌then◌else◌}
use Rattle.std.specs.Int.{int_div_euclid, int_rem_euclid}
use Rattle.std.specs.List.{list_any}
use Rattle.std.specs.Option.{option_map_or}
use Rattle.point_types.specs.Point.{value_of}
use Rattle.point_types.specs.Reading.{factor_of}
use Rattle.point_types.specs.declared.kind.Kind.TheVariants as kinds
use Rattle.inverter_sim.specs.Image.{number_of}
use Rattle.inverter_sim.specs.declared.points.FlowPoints.{FlowPoints}
use Rattle.inverter_sim.specs.declared.points.MeterPoints.{MeterPoints}
use Rattle.inverter_sim.specs.declared.points.Scale.{Scale}
use Rattle.inverter_sim.specs.declared.points.Scale.TheVariants as scale
use Rattle.inverter_sim.specs.declared.works.Inverter.{Inverter}
use Rattle.inverter_sim.specs.declared.works.Meter.{Meter}
use Rattle.inverter_sim.specs.declared.works.Works.{Works}
use Rattle.inverter_sim.specs.declared.works.Works.TheVariants as works
use Rattle.inverter_sim.specs.State.{DeviceState, PlantState}

-- ---- the registers that a tick looks at

-- the word of a register, where the device has it
abbrev pub word_at : List ℕ → Option ℕ → Option ℕ
word_at registers at = option_and_then (slice_get registers) at

-- the number of a uint16 or an enum16: none where its word is the unimplemented one
abbrev pub implemented : ℕ → Option ℕ
implemented w = if w == 0xFFFF then None else Some w

abbrev pub number_at : List ℕ → Option ℕ → Option ℕ
number_at registers at = option_and_then implemented (word_at registers at)

abbrev pub is_number : ℕ → Option ℕ → Bool
is_number n at = option_map_or (λ m. m == n) at false

-- 10^(s+10), for a factor s in -10..10
abbrev pub power_of : ℤ → ℕ
power_of s = 10 ^ unsigned_abs (s +ℤ pos 10)

-- 10^10 stands for the factor 0
abbrev pub one : ℕ
one = 10 ^ 10

-- the power of a factor in -10..10 that a register holds
abbrev pub power_in : ℕ → Option ℕ
power_in w = option_map power_of (factor_of (value_of kinds.Sunssf (w ∷ [])))

abbrev pub power_at : List ℕ → Option ℕ → Option ℕ
power_at registers at = option_and_then power_in (word_at registers at)

abbrev pub power_by : List ℕ → Scale → Option ℕ
power_by registers (scale.Fixed s) = option_map power_of (factor_of (Some s))
power_by registers (scale.At i) = power_at registers (Some i)

-- ---- watts at the ticks to come

-- the watts now; the last number stays
abbrev pub present : List ℕ → ℕ
present [] = 0
present (w ∷ ws) = w

abbrev pub later : List ℕ → List ℕ
later [] = []
later (w ∷ []) = w ∷ []
later (w ∷ v ∷ ws) = v ∷ ws

-- the register set, where the device has it
abbrev pub set_at : Option ℕ → ℕ → List ℕ → List ℕ
set_at None w registers = registers
set_at (Some i) w registers = slice_set registers i w

-- ---- an inverter

abbrev pub is_off : List ℕ → Inverter → Bool
is_off registers i = is_number 0 (number_at registers i.points.connected)

abbrev pub is_limited : List ℕ → Inverter → Bool
is_limited registers i = is_number 1 (number_at registers i.points.limited)

-- wmax * raw * 10^sf / 100, rounded down
abbrev pub percent_of : ℕ → ℕ → ℕ → ℕ
percent_of wmax raw power = wmax * raw * power / (100 * one)

-- the most watts that the controls allow: none where WMaxLim_Ena isn't 1, or WMaxLimPct is absent
abbrev pub limit_of : List ℕ → Inverter → Option ℕ
limit_of registers i =
    if is_limited registers i then
    option_and_then (λ raw. option_map (percent_of i.wmax raw) (power_by registers i.points.limit_scale))
    (number_at registers i.points.limit)
    else None

-- the watts that are available, or the limit where that is less
abbrev pub wanted_of : List ℕ → Inverter → ℕ
wanted_of registers i = option_map_or (min (present i.available)) (limit_of registers i) (present i.available)

-- as near to what is wanted as so many watts up or down lead from the watts before
abbrev pub stepped : ℕ → ℕ → ℕ → ℕ
stepped before wanted ramp = max (before - ramp) (min (before + ramp) wanted)

-- the same of an inverter with a ramp, which never gives more than is available
abbrev pub ramped : List ℕ → Inverter → ℕ → ℕ
ramped registers i ramp = min (present i.available) (stepped i.produced (wanted_of registers i) ramp)

-- the watts that the inverter produces at its next tick
abbrev pub watts_of : List ℕ → Inverter → ℕ
watts_of registers i = if is_off registers i then 0 else option_map_or (ramped registers i) i.ramp (wanted_of registers i)

-- watts / 10^sf, rounded down, where an int16 holds it
abbrev pub scaled_watts : ℕ → ℕ → ℕ
scaled_watts watts power = let n = watts * one / power in if nat_le n 32767 then n else 0x8000

-- what W shows: the unimplemented word where W_SF is absent or the number is too great
abbrev pub watts_word : List ℕ → Inverter → ℕ
watts_word registers i = option_map_or (scaled_watts (watts_of registers i)) (power_at registers i.points.watts_scale) 0x8000

-- what St shows: OFF, SLEEPING, THROTTLED or MPPT
abbrev pub state_word : List ℕ → Inverter → ℕ
state_word registers i = if is_off registers i then 1 else (if present i.available == 0 then 2 else (if nat_lt (watts_of registers i) (present i.available) then 5 else 4))

-- An inverter after its next tick, and its registers.
abbrev pub gone_on : List ℕ → Inverter → Inverter
gone_on registers i = record i { available = later i.available; produced = watts_of registers i }

abbrev pub shown : List ℕ → Inverter → List ℕ
shown registers i = set_at i.points.state (state_word registers i) (set_at i.points.watts (watts_word registers i) registers)

abbrev pub ticked_as : Works → DeviceState → DeviceState
ticked_as (works.Inverter i) d = record d { works = works.Inverter (gone_on d.registers i); registers = shown d.registers i }
ticked_as (works.Meter m) d = d

-- A device when the inverters have ticked; a meter is as it was.
abbrev pub ticked : DeviceState → DeviceState
ticked d = ticked_as d.works d

-- ---- a meter

-- the watts that a device has produced since its last tick; a meter produces none
abbrev pub produced_as : Works → ℕ
produced_as (works.Inverter i) = i.produced
produced_as (works.Meter m) = 0

-- the watts of the device, where its unit is one of these
abbrev pub produced_for : List ℕ → DeviceState → ℕ
produced_for units d = if list_any (λ unit. unit == d.unit) units then produced_as d.works else 0

-- the watts that the devices of these units have produced since their last tick
abbrev pub produced_by : List ℕ → List DeviceState → ℕ
produced_by units devices = sum_by (produced_for units) devices

-- those of the inverters whose watts go through the meter
abbrev pub produced_behind : Works → List DeviceState → ℕ
produced_behind (works.Inverter i) devices = 0
produced_behind (works.Meter m) devices = produced_by m.behind devices

-- the watts that are drawn from the grid: the load less what these inverters produce
abbrev pub drawn : ℕ → Meter → ℤ
drawn produced m = pos (present m.load) -ℤ pos produced

-- a number as an int16 in two's complement, where an int16 holds it and it isn't the unimplemented word
abbrev pub int16_word : ℤ → ℕ
int16_word n = if int_le (neg_ℤ (pos 32767)) n && int_le n (pos 32767) then unsigned_abs (int_rem_euclid n (pos 65536)) else 0x8000

-- watts / 10^sf, rounded down, which is away from zero where power is fed into the grid
abbrev pub scaled_drawn : ℤ → ℕ → ℕ
scaled_drawn watts power = int16_word (int_div_euclid (watts *ℤ pos one) (pos power))

-- what W shows, and the watts of a phase, which are one of so many parts: the unimplemented word where W_SF is absent or
-- the number doesn't fit
abbrev pub drawn_word : ℕ → List ℕ → ℕ → Meter → ℕ
drawn_word parts registers produced m =
    option_map_or (λ power. scaled_drawn (drawn produced m) (parts * power)) (power_at registers m.points.watts_scale) 0x8000

-- the number of an int16, where it is above 0
abbrev pub above_zero : ℕ → Option ℕ
above_zero w = if nat_lt 0 w && nat_le w 32767 then Some w else None

-- the voltage, of which 10^10 are a volt: none where PhV isn't above 0, or V_SF is absent
abbrev pub voltage_at : List ℕ → MeterPoints → Option ℕ
voltage_at registers points =
    option_and_then (λ raw. option_map (λ power. raw * power) (power_at registers points.voltage_scale))
    (option_and_then above_zero (word_at registers points.voltage))

-- watts / voltage / 10^sf, rounded down, where an int16 holds it; none of more than 10^18 W, which no plant has
abbrev pub scaled_current : ℕ → ℕ → ℕ → ℕ
scaled_current watts voltage power = let n = watts * one * one / (voltage * power) in if nat_le watts (10 ^ 18) && nat_le n 32767 then n else 0x8000

-- what A shows, and the current of a phase, which is one of so many parts; the watts are taken without their sign. It is the
-- unimplemented word where there is no voltage, A_SF is absent, or the number doesn't fit
abbrev pub current_word : ℕ → List ℕ → ℕ → Meter → ℕ
current_word parts registers produced m =
    option_map_or
    (λ voltage. option_map_or (scaled_current (unsigned_abs (drawn produced m)) (parts * voltage)) (power_at registers m.points.current_scale) 0x8000)
    (voltage_at registers m.points) 0x8000

-- these words stand at the points
abbrev pub flow_shown : ℕ → ℕ → FlowPoints → List ℕ → List ℕ
flow_shown watts current points registers = set_at points.current current (set_at points.watts watts registers)

-- the same at the points of each phase
abbrev pub phases_shown : ℕ → ℕ → MeterPoints → List ℕ → List ℕ
phases_shown watts current points registers =
    flow_shown watts current points.phase_c (flow_shown watts current points.phase_b (flow_shown watts current points.phase_a registers))

-- the registers of a meter when it shows what flows through it: the whole, and an equal part of it in each phase
abbrev pub meter_shown : List ℕ → ℕ → Meter → List ℕ
meter_shown registers produced m =
    let parts = number_of m.points.phases in
    phases_shown (drawn_word parts registers produced m) (current_word parts registers produced m) m.points
    (flow_shown (drawn_word 1 registers produced m) (current_word 1 registers produced m) m.points.whole registers)

abbrev pub metered_as : Works → ℕ → DeviceState → DeviceState
metered_as (works.Inverter i) produced d = d
metered_as (works.Meter m) produced d = record d {
  works = works.Meter (record m { load = later m.load });
  registers = meter_shown d.registers produced m;
}

-- A device when the meters have ticked too, among these devices; an inverter is as it was.
abbrev pub metered : List DeviceState → DeviceState → DeviceState
metered devices d = metered_as d.works (produced_behind d.works devices) d

-- ---- the plant

-- The devices after the next tick: the inverters tick, and then the meters show what came of that.
abbrev pub devices_ticked : List DeviceState → List DeviceState
devices_ticked devices = let produced = map ticked devices in map (metered produced) produced

-- A plant after its next tick.
abbrev pub all_ticked : PlantState → PlantState
all_ticked p = record p { devices = devices_ticked p.devices }
