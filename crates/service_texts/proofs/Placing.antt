-- Each device is reached at its place.
use Rattle.std.proofs.Common.{◌≡◌, ℕ, zero, suc, ◌+◌, Bool, true, false, List, [], ◌∷◌, ◌++◌, length, Option, Some, None, slice_get, refl, sym, ap, subst, arith, append_assoc, bytes_eq, if◌then◌else◌}
use Rattle.std.proofs.lemmas.List.{append-nil}
use Rattle.std.proofs.lemmas.Slice.Eq.{bytes_eq-Decides}
use Rattle.service_parts.specs.declared.limits.Station.{Station}
use Rattle.service_texts.specs.declared.addresses.Addresses.{Addresses}
use Rattle.service_texts.specs.declared.device_places.DevicePlace.{DevicePlace}
use Rattle.service_texts.specs.Stations.{number_from, with_station, addresses_behind, addresses_of, IsAt, AreAt}

-- what a number is found for stands there
abbrev FoundAt : ℕ → List ℕ → List (List ℕ) → ℕ → Type 0
FoundAt n address links i = (k : ℕ) × (n + k ≡ i) × (slice_get links k ≡ Some address)

found : (n : ℕ) (address : List ℕ) (links : List (List ℕ)) (i : ℕ) → number_from n address links ≡ Some i → FoundAt n address links i
found n address [] i e = absurd (cc)
found n address (known ∷ more) i e = go (bytes_eq known address) refl e (found (n + 1) address more i)
  where
    go : (b : Bool) → bytes_eq known address ≡ b → (if b then Some n else number_from (n + 1) address more) ≡ Some i → (number_from (n + 1) address more ≡ Some i → FoundAt (n + 1) address more i) → FoundAt n address (known ∷ more) i
    go true same e rest = let eq : n ≡ i = cc in (0, omega (arith, eq), ap Some ((bytes_eq-Decides known address).0 same))
    go false other e rest = let r = rest e in (suc r.0, omega (arith, r.1), r.2)

-- an address more changes nothing
get_more : (links more : List (List ℕ)) (k : ℕ) (address : List ℕ) → slice_get links k ≡ Some address → slice_get (links ++ more) k ≡ Some address
get_more [] more k address e = absurd (cc)
get_more (link ∷ links) more zero address e = e
get_more (link ∷ links) more (suc k) address e = get_more links more k address e

get_last : (links : List (List ℕ)) (address : List ℕ) → slice_get (links ++ address ∷ []) (length links) ≡ Some address
get_last [] address = refl
get_last (link ∷ links) address = get_last links address

at_more : (links more : List (List ℕ)) (places : List DevicePlace) (stations : List Station) → AreAt links places stations → AreAt (links ++ more) places stations
at_more links more [] [] h = h
at_more links more [] (station ∷ stations) h = elim h [ ]
at_more links more (place ∷ places) [] h = elim h [ ]
at_more links more (place ∷ places) (station ∷ stations) h = ((get_more links more station.link place.address h.0.0, h.0.1), at_more links more places stations h.1)

at_last : (links : List (List ℕ)) (places : List DevicePlace) (stations : List Station) (place : DevicePlace) (station : Station) → AreAt links places stations → IsAt links place station → AreAt links (places ++ place ∷ []) (stations ++ station ∷ [])
at_last links [] [] place station h last = (last, h)
at_last links [] (s ∷ stations) place station h last = elim h [ ]
at_last links (p ∷ places) [] place station h last = elim h [ ]
at_last links (p ∷ places) (s ∷ stations) place station h last = (h.0, at_last links places stations place station h.1 last)

step : (found_at : Option ℕ) (s : Addresses) (done : List DevicePlace) (place : DevicePlace) → number_from 0 place.address s.links ≡ found_at → AreAt s.links done s.stations → AreAt (with_station found_at place s).links (done ++ place ∷ []) (with_station found_at place s).stations
step (Some link) s done place e h =
    let r = found 0 place.address s.links link e in
    let same : r.0 ≡ link = omega (arith, r.1) in
    at_last s.links done s.stations place (record { link = link; unit = place.unit }) h (subst (λ k. slice_get s.links k ≡ Some place.address) same r.2, refl)
step None s done place e h =
    at_last (s.links ++ place.address ∷ []) done s.stations place (record { link = length s.links; unit = place.unit }) (at_more s.links (place.address ∷ []) done s.stations h) (get_last s.links place.address, refl)

behind : (s : Addresses) (done places : List DevicePlace) → AreAt s.links done s.stations → AreAt (addresses_behind s places).links (done ++ places) (addresses_behind s places).stations
behind s done [] h = subst (λ ps. AreAt s.links ps s.stations) (sym (append-nil done)) h
behind s done (place ∷ places) h =
    let t = with_station (number_from 0 place.address s.links) place s in
    subst (λ ps. AreAt (addresses_behind t places).links ps (addresses_behind t places).stations) (append_assoc done (place ∷ []) places)
    (behind t (done ++ place ∷ []) places (step (number_from 0 place.address s.links) s done place refl h))

whole : (places : List DevicePlace) → AreAt (addresses_of places).links places (addresses_of places).stations
whole places = behind (record { links = []; stations = [] }) [] places _

pub placed : (places : List DevicePlace) (a : Addresses) → a ≡ addresses_of places → AreAt a.links places a.stations
placed places a e = subst (λ b. AreAt b.links places b.stations) (sym e) (whole places)
