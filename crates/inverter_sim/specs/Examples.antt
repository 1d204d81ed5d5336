-- Worked values of a tick, of writes, of replies that are wrong and of plant files.
-- SunSpec inverter models 101 to 103 and 123, meter models 201 to 204; MODBUS Messaging on TCP/IP Implementation Guide, section 3.1.
use Rattle.std.specs.Prelude.{◌≡◌, ◌-◌, ◌*◌, true, false, [], ◌∷◌, take, pos, negsuc, None, Some, Ok, Err, refl, codes}
use Rattle.toml.specs.Data.{no_items, item, no_members, member, integer, string, array, table}
use Rattle.inverter_sim.specs.declared.fault.PlantFault.TheVariants as fault
use Rattle.inverter_sim.specs.declared.misbehaviour.Misbehaviour.TheVariants as wrong
use Rattle.inverter_sim.specs.Tick.{one, power_of, percent_of, scaled_watts, stepped, scaled_drawn, scaled_current, later}
use Rattle.inverter_sim.specs.Serve.{are_whole}
use Rattle.inverter_sim.specs.Image.{split, padded, places_from}
use Rattle.inverter_sim.specs.Link.{earlier, garbled, counted}
use Rattle.inverter_sim.specs.File.{words_of_kind, misbehaviour_of, device_of, fault_of, plant_of}
use Rattle.point_types.specs.declared.kind.Kind.TheVariants as kinds

-- 55.0 percent of 5000 W
pub a_limit : percent_of 5000 550 (power_of (negsuc 0)) ≡ 2750
a_limit = refl

pub a_limit_below_a_watt : percent_of 999 1 (power_of (negsuc 0)) ≡ 0
a_limit_below_a_watt = refl

pub tens_of_watts : scaled_watts 2759 (power_of (pos 1)) ≡ 275
tens_of_watts = refl

pub more_than_an_int16 : scaled_watts 32768 one ≡ 0x8000
more_than_an_int16 = refl

-- from 1,000 W by at most 300 W at a tick
pub a_step_up : stepped 1000 5000 300 ≡ 1300
a_step_up = refl

pub a_step_down : stepped 1000 0 300 ≡ 700
a_step_down = refl

pub the_last_step : stepped 1000 1100 300 ≡ 1100
the_last_step = refl

-- 1,005 W drawn, and 1,005 W fed into the grid, in tens of watts
pub tens_of_watts_drawn : scaled_drawn (pos 1005) (power_of (pos 1)) ≡ 100
tens_of_watts_drawn = refl

pub tens_of_watts_fed : scaled_drawn (negsuc 1004) (power_of (pos 1)) ≡ 65536 - 101
tens_of_watts_fed = refl

pub as_much_as_is_used : scaled_drawn (pos 0) one ≡ 0
as_much_as_is_used = refl

pub the_least_int16 : scaled_drawn (negsuc 32766) one ≡ 0x8001
the_least_int16 = refl

pub less_than_an_int16 : scaled_drawn (negsuc 32767) one ≡ 0x8000
less_than_an_int16 = refl

-- of 1,000 W drawn, and of as many fed into the grid, each of three phases shows
pub a_third_drawn : scaled_drawn (pos 1000) (3 * one) ≡ 333
a_third_drawn = refl

pub a_third_fed : scaled_drawn (negsuc 999) (3 * one) ≡ 65536 - 334
a_third_fed = refl

-- 1,000 W at 230.0 V in hundredths of an ampere, and in each of three phases
pub hundredths_of_amperes : scaled_current 1000 (2300 * power_of (negsuc 0)) (power_of (negsuc 1)) ≡ 434
hundredths_of_amperes = refl

pub a_third_of_them : scaled_current 1000 (3 * (2300 * power_of (negsuc 0))) (power_of (negsuc 1)) ≡ 144
a_third_of_them = refl

pub the_most_amperes : scaled_current 75366 (2300 * power_of (negsuc 0)) (power_of (negsuc 1)) ≡ 32767
the_most_amperes = refl

pub more_amperes_than_an_int16 : scaled_current 75367 (2300 * power_of (negsuc 0)) (power_of (negsuc 1)) ≡ 0x8000
more_amperes_than_an_int16 = refl

pub the_last_watts_stay : later (4000 ∷ []) ≡ 4000 ∷ []
the_last_watts_stay = refl

pub a_whole_point : are_whole 0 (places_from true 0 2) ≡ true
a_whole_point = refl

pub half_a_point : are_whole 0 (take 1 (places_from true 0 2)) ≡ false
half_a_point = refl

pub a_fixed_point : are_whole 0 (places_from false 0 2) ≡ false
a_fixed_point = refl

pub two_words : split 2 65538 ≡ 1 ∷ 2 ∷ []
two_words = refl

pub an_empty_text : padded 2 [] ≡ 0 ∷ 0 ∷ []
an_empty_text = refl

pub a_negative_factor : words_of_kind kinds.Sunssf (negsuc 0) ≡ Some (0xFFFF ∷ [])
a_negative_factor = refl

pub no_number_of_an_int16 : words_of_kind kinds.Int16 (pos 32768) ≡ None
no_number_of_an_int16 = refl

pub before_the_first : earlier 0 ≡ 65535
before_the_first = refl

pub garbage : garbled 258 (3 ∷ 4 ∷ 0x53 ∷ 0x75 ∷ 0x6E ∷ 0x53 ∷ []) ≡ 3 ∷ 4 ∷ 1 ∷ 2 ∷ 1 ∷ 2 ∷ []
garbage = refl

pub an_exception_stays : garbled 258 (0x83 ∷ 2 ∷ []) ≡ 0x83 ∷ 2 ∷ []
an_exception_stays = refl

pub counting_stops : counted 1000001 ≡ 1000001
counting_stops = refl

pub a_cut : misbehaviour_of (codes "cut") (pos 259) ≡ Some (wrong.Cut 259)
a_cut = refl

pub no_cut : misbehaviour_of (codes "cut") (pos 260) ≡ None
no_cut = refl

pub no_number : fault_of [] (table (member (codes "kind") (string (codes "stale")) (member (codes "request") (integer (pos 1)) no_members))) ≡ Err fault.MissingKey
no_number = refl

pub no_such_kind : device_of [] [] (table (member (codes "kind") (string (codes "battery")) no_members)) ≡ Err fault.BadRange
no_such_kind = refl

pub a_meter_without_keys : device_of [] [] (table (member (codes "kind") (string (codes "meter")) no_members)) ≡ Err fault.MissingKey
a_meter_without_keys = refl

pub nothing : plant_of [] (table no_members) ≡ Ok (record { devices = []; faults = []; frames = 0; pace = None })
nothing = refl

pub no_list_of_devices : plant_of [] (table (member (codes "device") (integer (pos 5)) no_members)) ≡ Err fault.MissingKey
no_list_of_devices = refl

pub a_device_without_keys : plant_of [] (table (member (codes "device") (array (item (table no_members) no_items)) no_members)) ≡ Err fault.MissingKey
a_device_without_keys = refl
