-- The maps of one device after another.
use Rattle.std.proofs.Common.{◌≡◌, ℕ, suc, ◌+◌, ◌<◌, List, [], ◌∷◌, ◌++◌, length, get_or, take, drop, Option, refl, sym, ap, ◌∙◌, append_assoc, take-append-drop}
use Rattle.std.proofs.Math.Seq.{drop-cons, take-add}
use Rattle.std.proofs.lemmas.List.{append-nil}
use Rattle.modbus_frame.specs.declared.link.LinkFault.{LinkFault}
use Rattle.register_map.specs.Layout.{Layout}
use Rattle.site_model.specs.declared.device.SiteDevice.{SiteDevice}
use Rattle.gateway.specs.poller.LinkRun.{Exchange}
use Rattle.gateway.specs.poller.Polling.{Polling}
use Rattle.gateway.specs.poller.Finding.{FindsMap, FindsMaps, FindsOne, FindsAll, StopsSearch, StopsFinding}
use Rattle.gateway.proofs.Talking.{talks_behind}

-- the device at a place, and those after it
from_place : (devices : List SiteDevice) (i : ℕ) (device : SiteDevice) → i < length devices → device ≡ get_or devices i device → drop i devices ≡ device ∷ drop (suc i) devices
from_place devices i device within is = drop-cons devices i device within ∙ ap (λ d. d ∷ drop (suc i) devices) (sym is)

pub take_more : (devices : List SiteDevice) (i : ℕ) (device : SiteDevice) → i < length devices → device ≡ get_or devices i device → take (i + 1) devices ≡ take i devices ++ device ∷ []
take_more devices i device within is = take-add i 1 devices ∙ ap (λ l. take i devices ++ take 1 l) (from_place devices i device within is)

split_at_place : (devices : List SiteDevice) (i : ℕ) (device : SiteDevice) → i < length devices → device ≡ get_or devices i device → devices ≡ take i devices ++ device ∷ drop (suc i) devices
split_at_place devices i device within is = sym (take-append-drop i devices) ∙ ap (λ l. take i devices ++ l) (from_place devices i device within is)

maps_more : (devices : List SiteDevice) (es : List Exchange) (maps : List (Option Layout)) (device : SiteDevice) (own : List Exchange) (found : Option Layout)
    → FindsMaps devices es maps → FindsMap device own found → FindsMaps (devices ++ device ∷ []) (es ++ own) (maps ++ found ∷ [])
maps_more [] es maps device own found so_far one =
    (own, [], found, [], ap (λ l. l ++ own) so_far.0 ∙ sym (append-nil own), ap (λ l. l ++ found ∷ []) so_far.1, one, (refl, refl))
maps_more (d ∷ ds) es maps device own found (first, others, map, more, all, each, is, rest) one =
    (first, others ++ own, map, more ++ found ∷ [], ap (λ l. l ++ own) all ∙ append_assoc first others own, ap (λ l. l ++ found ∷ []) each, is, maps_more ds others more device own found rest one)

-- one device more
pub finds_more : (devices : List SiteDevice) (i : ℕ) (device : SiteDevice) (p m q : Polling) (maps : List (Option Layout)) (found : Option Layout) → i < length devices → device ≡ get_or devices i device
    → FindsAll (take i devices) p maps m → FindsOne device m found q → FindsAll (take (i + 1) devices) p (maps ++ found ∷ []) q
finds_more devices i device p m q maps found within is so_far one =
    rw (take_more devices i device within is)
    (so_far.0 ++ one.0, maps_more (take i devices) so_far.0 maps device one.0 found so_far.1 one.1, talks_behind p m q so_far.0 one.0 so_far.2 one.2)

-- the link failed in the search for a device's map
pub stops_finding : (devices : List SiteDevice) (i : ℕ) (device : SiteDevice) (p m q : Polling) (maps : List (Option Layout)) (fault : LinkFault) → i < length devices → device ≡ get_or devices i device
    → FindsAll (take i devices) p maps m → StopsSearch device.unit device.base m fault q → StopsFinding devices p fault q
stops_finding devices i device p m q maps fault within is so_far stops = record {
  before = take i devices;
  device = device;
  behind = drop (suc i) devices;
  split = split_at_place devices i device within is;
  es = so_far.0;
  maps = maps;
  found = so_far.1;
  own = stops.es;
  address = stops.address;
  count = stops.count;
  next = stops.next;
  middle = stops.middle;
  talks = talks_behind p m stops.middle so_far.0 stops.es so_far.2 stops.talks;
  fails = stops.fails;
}
