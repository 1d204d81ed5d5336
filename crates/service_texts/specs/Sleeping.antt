-- Which devices of a site file sleep at night: the key `sleeps` of its entries `device`. No standard says it; site files are this
-- project's.
use Rattle.std.specs.Prelude.{ℕ, ℤ, ◌&&◌, nat_le, List, [], ◌∷◌, ◌++◌, length, Option, None, Some, option_map, option_and_then, Result, Ok, codes, if◌then◌else◌}
use Rattle.std.specs.Option.{ok_or}
use Rattle.toml.specs.Data.{Data, table, Items, no_items, item}
use Rattle.toml.specs.Parse.{parse_document}
use Rattle.point_types.specs.Value.{◌>>=◌}
use Rattle.file_keys.specs.Keys.{optional_number_at, section_at, natural_within}
use Rattle.service_texts.specs.declared.sleeping.SleepFault.{SleepFault}
use Rattle.service_texts.specs.declared.sleeping.SleepFault.TheVariants as fault

abbrev pub hours_of : ℕ → Option ℕ
hours_of n = if nat_le 1 n && nat_le n 24 then Some n else None

-- 1 to 24 hours; without the key a device doesn't sleep
abbrev pub hours_said : Option ℤ → Option (Option ℕ)
hours_said None = Some None
hours_said (Some n) = option_map Some (option_and_then hours_of (natural_within 255 n))

abbrev pub hours_from : Data → Option (Option ℕ)
hours_from entry = option_and_then hours_said (optional_number_at (codes "sleeps") entry)

-- the hours of the device with this number
abbrev pub hours_at : ℕ → Data → Result (Option ℕ) SleepFault
hours_at n entry = ok_or (hours_from entry) (fault.BadHours n)

-- of the devices in order, after those before them, or what is wrong with the first one
abbrev pub hours_after : List (Option ℕ) → Items → Result (List (Option ℕ)) SleepFault
hours_after seen no_items = Ok seen
hours_after seen (item entry entries) = hours_at (length seen) entry >>= λ hours. hours_after (seen ++ hours ∷ []) entries

-- the same of a file
abbrev pub hours_listed : Data → Result (List (Option ℕ)) SleepFault
hours_listed doc = ok_or (section_at (codes "device") doc) fault.NotToml >>= hours_after []

-- the same of a text
abbrev pub hours_in : List ℕ → Result (List (Option ℕ)) SleepFault
hours_in text = ok_or (option_map table (parse_document text)) fault.NotToml >>= hours_listed
