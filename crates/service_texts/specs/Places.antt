-- Where the devices of a site file are: the keys `address` and `remote_unit` of its entries `device`.
-- No standard says it; site files are this project's.
use Rattle.std.specs.Prelude.{ℕ, List, [], ◌∷◌, ◌++◌, length, Option, option_map, option_and_then, Result, Ok, codes}
use Rattle.std.specs.Option.{ok_or}
use Rattle.toml.specs.Data.{Data, table, Items, no_items, item}
use Rattle.toml.specs.Parse.{parse_document}
use Rattle.point_types.specs.Value.{◌>>=◌}
use Rattle.file_keys.specs.Keys.{text_at, number_at, number_or, section_at, natural_within}
use Rattle.service_texts.specs.declared.device_places.AddressFault.{AddressFault}
use Rattle.service_texts.specs.declared.device_places.AddressFault.TheVariants as fault
use Rattle.service_texts.specs.declared.device_places.DevicePlace.{DevicePlace}

-- the unit by which a device is known at its address: `remote_unit`, or else `unit`
abbrev pub remote_unit : Data → Option ℕ
remote_unit entry = option_and_then (natural_within 255)
    (option_and_then (λ unit. number_or (codes "remote_unit") unit entry) (number_at (codes "unit") entry))

-- where the device with this number is
abbrev pub place_of : ℕ → Data → Result DevicePlace AddressFault
place_of n entry =
    ok_or (text_at (codes "address") entry) (fault.Missing n) >>= λ address.
    ok_or (remote_unit entry) (fault.BadUnit n) >>= λ unit.
    Ok (record { address = address; unit = unit })

-- the devices' places in order, after those before them, or what is wrong with the first that has none
abbrev pub places_behind : List DevicePlace → Items → Result (List DevicePlace) AddressFault
places_behind seen no_items = Ok seen
places_behind seen (item entry entries) =
    place_of (length seen) entry >>= λ place. places_behind (seen ++ place ∷ []) entries

-- the same of a file
abbrev pub places_of : Data → Result (List DevicePlace) AddressFault
places_of doc = ok_or (section_at (codes "device") doc) fault.NotToml >>= places_behind []

-- the same of a text
abbrev pub places_in : List ℕ → Result (List DevicePlace) AddressFault
places_in text = ok_or (option_map table (parse_document text)) fault.NotToml >>= places_of
