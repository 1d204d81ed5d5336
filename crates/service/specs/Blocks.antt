-- What a scan of a service is of: each wanted block as it was told last, a few scans ago at most
-- (IEC 61131-3 edition 2, 3.2: inputs are read, then the program runs).
use Rattle.std.specs.Prelude.{◌≡◌, ℕ, ◌<◌, ◌+◌, ◌==◌, Bool, List, [], ◌∷◌, length, Option, None, Some, if◌then◌else◌}
use Rattle.register_map.specs.Layout.{Layout}
use Rattle.scan_vm.specs.Machine.{Running}
use Rattle.site_model.specs.Readings.{known_at}
use Rattle.gateway.specs.declared.event_core.event.Event.{Event}
use Rattle.gateway.specs.declared.event_core.event.Event.TheVariants as event
use Rattle.gateway.specs.event_core.SiteRun.{told}
use Rattle.service_requests.specs.declared.request_end.RequestEnd.{RequestEnd}
use Rattle.service.specs.declared.round.Turn.{Turn}
use Rattle.service.specs.Rounds.{event_of, most_scans}
use Rattle.service.specs.Stages.{Adopts, Asks, Ends, IsFirst, IsReached, Learns, OpensNext, Scans, Skips, Stage, Tells, Waits}

-- what was told to a core: of the wanted block with a number this event, or that the program ran
pub data Entry : Type 0 where
  block : (i : ℕ) (e : Event) → Entry
  ran : Entry

-- From a first stage on: what was told, the last first. Beside it outputs are written, clients ask, time goes by, maps are found
-- and forgotten, and other programs are put in.
pub data Telling (first : Stage) : List Entry → Stage → Type 0 where
  begins : Telling first [] first
  tells : {log : List Entry} {s : Stage} → Telling first log s → (i : ℕ) (f : RequestEnd) (is_new : Bool) (t : Stage) → (is : Tells i f is_new s t) → Telling first (block i (event_of is.want f) ∷ log) t
  scans : {log : List Entry} {s : Stage} → Telling first log s → (now : ℕ) (t : Stage) → Scans now s t → Telling first (ran ∷ log) t
  opens : {log : List Entry} {s : Stage} → Telling first log s → (device : ℕ) (turn : Turn) (t : Stage) → OpensNext device turn s t → Telling first log t
  ends : {log : List Entry} {s : Stage} → Telling first log s → (device : ℕ) (t : Stage) → Ends device s t → Telling first log t
  skips : {log : List Entry} {s : Stage} → Telling first log s → (device : ℕ) (t : Stage) → Skips device s t → Telling first log t
  learns : {log : List Entry} {s : Stage} → Telling first log s → (device : ℕ) (found : Option Layout) (t : Stage) → Learns device found s t → Telling first log t
  waits : {log : List Entry} {s : Stage} → Telling first log s → (ms : ℕ) (t : Stage) → Waits ms s t → Telling first log t
  asks : {log : List Entry} {s : Stage} → Telling first log s → (pdu : List ℕ) (t : Stage) → Asks pdu s t → Telling first log t
  adopts : {log : List Entry} {s : Stage} → Telling first log s → (machine : Running) (t : Stage) → Adopts machine s t → Telling first log t

-- the event that was told last of a wanted block
abbrev pub last_of : ℕ → List Entry → Option Event
last_of i [] = None
last_of i (block k e ∷ log) = if k == i then Some e else last_of i log
last_of i (ran ∷ log) = last_of i log

-- how often the program ran since
abbrev pub scans_since : ℕ → List Entry → ℕ
scans_since i [] = 0
scans_since i (block k e ∷ log) = if k == i then 0 else scans_since i log
scans_since i (ran ∷ log) = scans_since i log + 1

-- the words of the block that an event brings
abbrev pub block_by : Option Event → Option (List ℕ)
block_by (Some (event.Block want words)) = told want.model words
block_by (Some (event.Lost want)) = None
block_by (Some (event.Time ms)) = None
block_by (Some event.Scan) = None
block_by (Some (event.Client pdu)) = None
block_by None = None

-- What is known of each wanted block is what was told of it last, since which the program ran less often than `most_scans`.
pub record IsOfWhatWasTold (s : Stage) : Type 0 where
  pub first : Stage
  pub opening : IsFirst first
  pub log : List Entry
  pub course : Telling first log s
  pub known : (i : ℕ) → i < length s.core.site.wants → known_at s.core.standing.blocks i ≡ block_by (last_of i log)
  pub recent : (i : ℕ) → i < length s.core.site.wants → scans_since i log < most_scans

-- Whatever steps a service makes, each scan is of blocks that were told so.
abbrev pub ScansAreOfWhatWasTold : Type 0
ScansAreOfWhatWasTold = (s t : Stage) (now : ℕ) → IsReached s → Scans now s t → IsOfWhatWasTold s
