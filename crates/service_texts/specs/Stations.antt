-- Over which connections devices are reached: one for each different address, in the order of the devices.
-- No standard says it; it is this project's.
use Rattle.std.specs.Prelude.{◌≡◌, ℕ, ◌+◌, List, [], ◌∷◌, ◌++◌, length, map, Option, Some, None, slice_get, ⊤, if◌then◌else◌}
use Rattle.std.specs.Str.{bytes_eq}
use Rattle.site_model.specs.declared.device.SiteDevice.{SiteDevice}
use Rattle.service_parts.specs.declared.limits.Station.{Station}
use Rattle.service_texts.specs.declared.addresses.Addresses.{Addresses}
use Rattle.service_texts.specs.declared.device_places.DevicePlace.{DevicePlace}

-- the number of an address among others, of which the first has this number
abbrev pub number_from : ℕ → List ℕ → List (List ℕ) → Option ℕ
number_from n address [] = None
number_from n address (known ∷ more) = if bytes_eq known address then Some n else number_from (n + 1) address more

-- a device more
abbrev pub with_station : Option ℕ → DevicePlace → Addresses → Addresses
with_station (Some link) place s = record {
  links = s.links;
  stations = s.stations ++ record { link = link; unit = place.unit } ∷ [];
}
with_station None place s = record {
  links = s.links ++ place.address ∷ [];
  stations = s.stations ++ record { link = length s.links; unit = place.unit } ∷ [];
}

-- the addresses of devices after those before them
abbrev pub addresses_behind : Addresses → List DevicePlace → Addresses
addresses_behind s [] = s
addresses_behind s (place ∷ places) = addresses_behind (with_station (number_from 0 place.address s.links) place s) places

abbrev pub addresses_of : List DevicePlace → Addresses
addresses_of places = addresses_behind (record { links = []; stations = [] }) places

-- a device is reached at its place: its connection is that to its address
abbrev pub IsAt : List (List ℕ) → DevicePlace → Station → Type 0
IsAt links place station = (slice_get links station.link ≡ Some place.address) × (station.unit ≡ place.unit)

-- each of the devices is, in order
abbrev pub AreAt : List (List ℕ) → List DevicePlace → List Station → Type 0
AreAt links [] [] = ⊤
AreAt links [] (station ∷ stations) = ⊥
AreAt links (place ∷ places) [] = ⊥
AreAt links (place ∷ places) (station ∷ stations) = IsAt links place station × AreAt links places stations

-- where there is one address, a device is behind it, by the unit that the site file says
abbrev pub own_station : SiteDevice → Station
own_station device = record { link = 0; unit = device.unit }

-- all of them are
abbrev pub all_behind : List ℕ → List SiteDevice → Addresses
all_behind address devices = record { links = address ∷ []; stations = map own_station devices }
