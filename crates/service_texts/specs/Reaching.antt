-- Over which addresses the devices of a site are reached, by what the words of `serve` say of them. No standard says it; it is
-- this project's.
use Rattle.std.specs.Prelude.{◌≡◌, ◌≢◌, ℕ, ◌<◌, ◌≤◌, ◌^◌, ◌⊎◌, ⊤, List, [], ◌∷◌, length, Option, Some, None, Result, Ok, Err, MatchResult, codes}
use Rattle.std.specs.Borrow.{Bor}
use Rattle.std.specs.Str.Parse.{IsNumeral, digits_value, without_leading_plus}
use Rattle.std.specs.Str.Pattern.{RFindsChar, SplitsAroundMatch}
use Rattle.site_model.specs.declared.device.SiteDevice.{SiteDevice}
use Rattle.service_texts.specs.Places.{places_in}
use Rattle.service_texts.specs.Stations.{addresses_of, all_behind, AreAt}
use Rattle.service_texts.specs.declared.addresses.Addresses.{Addresses}
use Rattle.service_texts.specs.declared.device_places.AddressFault.{AddressFault}
use Rattle.service_texts.specs.declared.device_places.AddressFault.TheVariants as fault
use Rattle.service_texts.specs.declared.device_places.DevicePlace.{DevicePlace}
use Rattle.service_texts.specs.declared.reaching.DeviceSource.{DeviceSource}
use Rattle.service_texts.specs.declared.reaching.DeviceSource.TheVariants as given
use Rattle.service_texts.specs.declared.reaching.DevicesFault.{DevicesFault}
use Rattle.service_texts.specs.declared.reaching.DevicesFault.TheVariants as fault_of

-- a decimal in 1..65535, which may begin with a plus
abbrev pub IsPort : List ℕ → Type 0
IsPort text = IsNumeral 10 (without_leading_plus text)
    × (1 ≤ digits_value 10 (without_leading_plus text)) × (digits_value 10 (without_leading_plus text) < 2 ^ 16)

-- before the last colon something stands, and a port after it
pub record HasPort (text : List ℕ) : Type 0 where
  pub host : List ℕ
  pub port : List ℕ
  pub parted : SplitsAroundMatch (RFindsChar 58) text host port
  pub named : host ≢ []
  pub numbered : IsPort port

-- so do the addresses of all these places
abbrev pub HavePorts : List DevicePlace → Type 0
HavePorts [] = ⊤
HavePorts (place ∷ places) = HasPort place.address × HavePorts places

-- where the devices are, by an address of all of them and by a plant file
abbrev pub AreDevices : Option (Bor (List ℕ)) → Option (Bor (List ℕ)) → Result DeviceSource DevicesFault → Type 0
AreDevices None None told = told ≡ Ok given.BySite
AreDevices None (Some plant) told = told ≡ Ok (given.Plant plant)
AreDevices (Some address) None told = MatchResult told (λ devices. (devices ≡ given.Behind address) × HasPort address.now) (λ e. e ≡ fault_of.NoPort)
AreDevices (Some address) (Some plant) told = told ≡ Err fault_of.Both

-- one connection to each different address that the text of a site has, in order, and each device at its own
pub record AreReachedBySite (site : List ℕ) (addresses : Addresses) : Type 0 where
  pub places : List DevicePlace
  pub told : places_in site ≡ Ok places
  pub exact : addresses ≡ addresses_of places
  pub placed : AreAt addresses.links places addresses.stations
  pub with_ports : HavePorts places

-- the addresses of the devices of a site, with this text and this list of devices
abbrev pub AreReached : DeviceSource → List ℕ → List SiteDevice → Addresses → Type 0
AreReached given.BySite site listed addresses = AreReachedBySite site addresses
AreReached (given.Behind address) site listed addresses = addresses ≡ all_behind address.now listed
AreReached (given.Plant plant) site listed addresses = addresses ≡ all_behind (codes "127.0.0.1:0") listed

-- all devices have a place, and the address of this one is without a port
pub record HasNoPort (site : List ℕ) (e : AddressFault) : Type 0 where
  pub places : List DevicePlace
  pub told : places_in site ≡ Ok places
  pub device : ℕ
  pub inside : device < length places
  pub is : e ≡ fault.NoPort device

-- why they can't be told, memory aside
abbrev pub AreUnreachedBySite : List ℕ → AddressFault → Type 0
AreUnreachedBySite site e = (places_in site ≡ Err e) ⊎ HasNoPort site e

-- with one address for all of them nothing can be wrong
abbrev pub AreUnreached : DeviceSource → List ℕ → AddressFault → Type 0
AreUnreached given.BySite site e = AreUnreachedBySite site e
AreUnreached (given.Behind address) site e = ⊥
AreUnreached (given.Plant plant) site e = ⊥
