-- For which powers the devices of a site file are made: the key `rated` of its entries `device`, in watts. No standard says it; site
-- files are this project's.
use Rattle.std.specs.Prelude.{ℕ, ℤ, nat_le, List, [], ◌∷◌, ◌++◌, length, Option, None, Some, option_map, option_and_then, Result, Ok, codes, if◌then◌else◌}
use Rattle.std.specs.Option.{ok_or}
use Rattle.toml.specs.Data.{Data, table, Items, no_items, item}
use Rattle.toml.specs.Parse.{parse_document}
use Rattle.point_types.specs.Value.{◌>>=◌}
use Rattle.file_keys.specs.Keys.{optional_number_at, section_at, natural_within}
use Rattle.service_texts.specs.declared.rating.RatedFault.{RatedFault}
use Rattle.service_texts.specs.declared.rating.RatedFault.TheVariants as fault

abbrev pub power_of : ℕ → Option ℕ
power_of n = if nat_le 1 n then Some n else None

-- 1 to 1,000,000,000 watts; without the key it isn't known
abbrev pub power_said : Option ℤ → Option (Option ℕ)
power_said None = Some None
power_said (Some n) = option_map Some (option_and_then power_of (natural_within 1000000000 n))

abbrev pub power_from : Data → Option (Option ℕ)
power_from entry = option_and_then power_said (optional_number_at (codes "rated") entry)

-- the power of the device with this number
abbrev pub power_at : ℕ → Data → Result (Option ℕ) RatedFault
power_at n entry = ok_or (power_from entry) (fault.BadPower n)

-- of the devices in order, after those before them, or what is wrong with the first one
abbrev pub powers_after : List (Option ℕ) → Items → Result (List (Option ℕ)) RatedFault
powers_after seen no_items = Ok seen
powers_after seen (item entry entries) = power_at (length seen) entry >>= λ power. powers_after (seen ++ power ∷ []) entries

-- the same of a file
abbrev pub powers_listed : Data → Result (List (Option ℕ)) RatedFault
powers_listed doc = ok_or (section_at (codes "device") doc) fault.NotToml >>= powers_after []

-- the same of a text
abbrev pub powers_in : List ℕ → Result (List (Option ℕ)) RatedFault
powers_in text = ok_or (option_map table (parse_document text)) fault.NotToml >>= powers_listed
