-- The search for the maps of devices over a link, one device after another (SunSpec Device Information Model
-- Specification, the layout of a device's Modbus registers).
use Rattle.std.specs.Prelude.{◌≡◌, ◌⊎◌, ℕ, ◌<◌, ◌==◌, List, [], ◌∷◌, ◌++◌, ⊤, Option, None, Some, Result, Ok, Err, if◌then◌else◌}
use Rattle.std.specs.Result.{result_ok}
use Rattle.modbus_frame.specs.declared.link.LinkFault.{LinkFault}
use Rattle.modbus_frame.specs.declared.link.LinkFault.TheVariants as link
use Rattle.modbus_frame.specs.declared.message.Request.TheVariants.{Read}
use Rattle.register_map.specs.declared.access.ReadFault.TheVariants.{Refused, Failed}
use Rattle.register_map.specs.declared.layout.MapFault.{MapFault}
use Rattle.register_map.specs.declared.layout.MapFault.TheVariants as map
use Rattle.register_map.specs.Layout.{Layout}
use Rattle.register_map.specs.Reads.{Answer, RegisterRead, TakesNext}
use Rattle.register_map.specs.Search.{IsSearch, all_registers}
use Rattle.site_model.specs.declared.device.SiteDevice.{SiteDevice}
use Rattle.gateway.specs.declared.poller.outcome.Outcome.{Outcome}
use Rattle.gateway.specs.declared.poller.outcome.Outcome.TheVariants as outcome
use Rattle.gateway.specs.poller.LinkRun.{Exchange}
use Rattle.gateway.specs.poller.Polling.{Polling, Talks, Fails}
use Rattle.gateway.specs.poller.Asking.{Asking, AsksUnless}

-- A map is looked for at the device's own base alone, where it has one. The mark takes two registers, so 65535 is no base.
abbrev pub bases_by : Option ℕ → List ℕ
bases_by None = 40000 ∷ 50000 ∷ 0 ∷ []
bases_by (Some base) = if base == 65535 then [] else base ∷ []

-- What a request for registers answers to the search: an exception refuses the read; with a mismatch, or stale, it failed.
abbrev pub answer_by : Outcome → Answer
answer_by (outcome.Words words) = Ok words
answer_by (outcome.Exception e) = Err Refused
answer_by outcome.Wrote = Err Failed
answer_by outcome.Mismatch = Err Failed
answer_by outcome.Stale = Err Failed

-- ---- one unit

-- A read of a unit is this request, and its answer the one to it.
abbrev pub IsReadBy : ℕ → RegisterRead → Exchange → Type 0
IsReadBy unit r e = (e.unit ≡ unit) × (e.request ≡ Read r.address r.count) × (r.answer ≡ answer_by e.outcome)

-- These reads, in order and no others, are these requests.
abbrev pub AreReadsBy : ℕ → List RegisterRead → List Exchange → Type 0
AreReadsBy unit [] [] = ⊤
AreReadsBy unit [] (e ∷ es) = ⊥
AreReadsBy unit (r ∷ rs) [] = ⊥
AreReadsBy unit (r ∷ rs) (e ∷ es) = IsReadBy unit r e × AreReadsBy unit rs es

-- The requests are the reads of the search for the unit's map, by the base where one is known, and this is its result.
pub record IsSearched (unit : ℕ) (base : Option ℕ) (es : List Exchange) (result : Result Layout MapFault) : Type 0 where
  pub reads : List RegisterRead
  pub asked : AreReadsBy unit reads es
  pub search : IsSearch TakesNext all_registers reads (bases_by base) [] result

-- The requests are the first reads of a search for the unit's map, and this is the next one.
pub record GoesOnBy (unit : ℕ) (base : Option ℕ) (es : List Exchange) (address count : ℕ) : Type 0 where
  pub reads : List RegisterRead
  pub asked : AreReadsBy unit reads es
  pub search : IsSearch TakesNext all_registers (reads ++ record { address = address; count = count; answer = Err Failed } ∷ []) (bases_by base) [] (Err map.Read)

-- All requests were decided.
abbrev pub Searches : ℕ → Option ℕ → Polling → Result Layout MapFault → Polling → Type 0
Searches unit base p result q = (es : List Exchange) × IsSearched unit base es result × Talks p es q

-- The link failed at the next read.
pub record StopsSearch (unit : ℕ) (base : Option ℕ) (p : Polling) (fault : LinkFault) (q : Polling) : Type 0 where
  pub es : List Exchange
  pub address : ℕ
  pub count : ℕ
  pub next : GoesOnBy unit base es address count
  pub middle : Polling
  pub talks : Talks p es middle
  pub fails : Fails middle unit (Read address count) fault q

-- ---- one device after another

-- Where the search has a fault the device has no map.
abbrev pub FindsMap : SiteDevice → List Exchange → Option Layout → Type 0
FindsMap device es found = (result : Result Layout MapFault) × IsSearched device.unit device.base es result × (found ≡ result_ok result)

-- All requests were decided.
abbrev pub FindsOne : SiteDevice → Polling → Option Layout → Polling → Type 0
FindsOne device p found q = (es : List Exchange) × FindsMap device es found × Talks p es q

-- The requests are those of the searches for the devices' maps, in order and no others.
abbrev pub FindsMaps : List SiteDevice → List Exchange → List (Option Layout) → Type 0
FindsMaps [] es maps = (es ≡ []) × (maps ≡ [])
FindsMaps (device ∷ devices) es maps =
    (own : List Exchange) × (others : List Exchange) × (found : Option Layout) × (more : List (Option Layout))
    × (es ≡ own ++ others) × (maps ≡ found ∷ more) × FindsMap device own found × FindsMaps devices others more

-- All requests were decided.
abbrev pub FindsAll : List SiteDevice → Polling → List (Option Layout) → Polling → Type 0
FindsAll devices p maps q = (es : List Exchange) × FindsMaps devices es maps × Talks p es q

-- The link failed at a read of the search for a device's map: what went out for it is a front of that request.
pub record StopsFinding (devices : List SiteDevice) (p : Polling) (fault : LinkFault) (q : Polling) : Type 0 where
  pub before : List SiteDevice
  pub device : SiteDevice
  pub behind : List SiteDevice
  pub split : devices ≡ before ++ device ∷ behind
  pub es : List Exchange
  pub maps : List (Option Layout)
  pub found : FindsMaps before es maps
  pub own : List Exchange
  pub address : ℕ
  pub count : ℕ
  pub next : GoesOnBy device.unit device.base own address count
  pub middle : Polling
  pub talks : Talks p (es ++ own) middle
  pub fails : Fails middle device.unit (Read address count) fault q

-- With no memory for the maps nothing is touched.
abbrev pub StopsUnless : List SiteDevice → Polling → LinkFault → Polling → Type 0
StopsUnless devices p link.OutOfMemory q = q ≡ p
StopsUnless devices p other q = StopsFinding devices p other q

-- ---- the registers of a device, as the search reads them

abbrev pub answer_of : Result Outcome LinkFault → Answer
answer_of (Ok o) = answer_by o
answer_of (Err fault) = Err Failed

-- One request reads 1 to 125 registers; a read of none, or of more, isn't sent, and failed.
abbrev pub ReadsLine : Asking → ℕ → ℕ → Answer → Asking → Type 0
ReadsLine s address count answer t =
    ((result : Result Outcome LinkFault) × AsksUnless (s.polling).fault s (Read address count) result t × (answer ≡ answer_of result))
    ⊎ (((count ≡ 0) ⊎ (125 < count)) × (answer ≡ Err Failed) × (t ≡ s))
