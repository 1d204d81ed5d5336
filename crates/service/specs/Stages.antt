-- What a service does to its core and to its round, step by step: by the time and what is still to be written, by what devices
-- answer, by what clients ask, and by programs that are put in (IEC 61131-3 edition 2, 3.2; Modbus Application Protocol V1.1b3,
-- sections 6.3, 6.6 and 6.12).
use Rattle.std.specs.Prelude.{◌≡◌, ◌⊎◌, ℕ, Bool, true, false, List, All, Option, None, Some, set, slice_get}
use Rattle.register_map.specs.Layout.{Layout}
use Rattle.scan_vm.specs.Machine.{Running}
use Rattle.site_model.specs.declared.want.Want.{Want}
use Rattle.verifier.specs.Verified.{HasLinks}
use Rattle.gateway.specs.declared.event_core.event.Event.{Event}
use Rattle.gateway.specs.declared.event_core.event.Event.TheVariants as event
use Rattle.gateway.specs.declared.event_core.event.Answer.{Answer}
use Rattle.gateway.specs.declared.poller.outcome.Outcome.{Outcome}
use Rattle.gateway.specs.event_core.Core.{Gateway, adopting}
use Rattle.gateway.specs.event_core.Driving.{Happens}
use Rattle.gateway.specs.poller.Cycle.{read_of}
use Rattle.service_requests.specs.declared.request_end.RequestEnd.{RequestEnd}
use Rattle.service_requests.specs.declared.request_end.RequestEnd.TheVariants as fate
use Rattle.service_parts.specs.Course.{IsNew}
use Rattle.service_parts.specs.Seeking.{IsFound}
use Rattle.service.specs.declared.round.Turn.{Turn}
use Rattle.service.specs.Rounds.{ArePlanned, Closes, IsRecent, IsRoundFor, IsUntold, Opens, Progress, after_scan, event_of, since, skipped, told_at}

-- a core, and the round that is under way
pub record Stage : Type 0 where
  pub core : Gateway
  pub round : Progress

-- The core takes this event.
abbrev pub TakesEvent : Event → Gateway → Gateway → Type 0
TakesEvent e g h = (a : Answer) × Happens g e a h

-- ---- what happens

-- The wanted block of this number is told: by the outcome of a request for it, or as lost; for the next plan of its device, or not.
pub record Tells (i : ℕ) (f : RequestEnd) (is_new : Bool) (old new : Stage) : Type 0 where
  pub want : Want
  pub wanted : slice_get old.core.site.wants i ≡ Some want
  pub told : TakesEvent (event_of want f) old.core new.core
  pub round : new.round ≡ record old.round { told = told_at i is_new old.round.told }

-- The wanted block of this number is lost: not for the next plan of its device.
abbrev pub Loses : ℕ → Stage → Stage → Type 0
Loses i old new = Tells i fate.Lost false old new

-- There is no request for the wanted block of this number by the map that its device has now, if it has one: it is lost, which is
-- told for the next plan of its device.
pub record Lacks (i : ℕ) (old new : Stage) : Type 0 where
  pub told : Tells i fate.Lost true old new
  pub none : read_of old.core.site old.core.maps told.want ≡ None

-- What is written next to a device: a request to it, or nothing.
pub record OpensNext (device : ℕ) (t : Turn) (old new : Stage) : Type 0 where
  pub opens : Opens old.core device old.round t new.round
  pub core : new.core ≡ old.core

-- The device's write that is under way is over.
pub record Ends (device : ℕ) (old new : Stage) : Type 0 where
  pub closes : Closes device old.round new.round
  pub core : new.core ≡ old.core

-- Nothing more is written to the device.
abbrev pub Skips : ℕ → Stage → Stage → Type 0
Skips device old new = new ≡ record old { round = skipped device old.round }

-- The program runs, at this time of the service, where each wanted block was told lately. The core is told before how long ago
-- the scan before was. What the program set is to be written to the devices all of whose wanted blocks were told since they were
-- written last.
pub record Scans (now : ℕ) (old new : Stage) : Type 0 where
  pub recent : All IsRecent old.round.told
  pub waited : Gateway
  pub waits : TakesEvent (event.Time (since old.round.at now)) old.core waited
  pub runs : TakesEvent event.Scan waited new.core
  pub planned : ArePlanned new.core old.round.told old.round.writes new.round.writes
  pub same : new.round ≡ record { told = after_scan old.round.told; writes = new.round.writes; at = now }

-- A search found the device's map, or it is forgotten.
pub record Learns (device : ℕ) (found : Option Layout) (old new : Stage) : Type 0 where
  pub own : IsFound old.core.site device found
  pub same : new ≡ record old { core = record old.core { maps = set old.core.maps device found } }

-- So many milliseconds go by before the next scan, beside those that a scan tells.
pub record Waits (ms : ℕ) (old new : Stage) : Type 0 where
  pub told : TakesEvent (event.Time ms) old.core new.core
  pub round : new.round ≡ old.round

-- A client asks.
pub record Asks (pdu : List ℕ) (old new : Stage) : Type 0 where
  pub told : TakesEvent (event.Client pdu) old.core new.core
  pub round : new.round ≡ old.round

-- Another program, which was accepted for the site's tags, is put in with its variables at these numbers: it runs from the next
-- scan on. What is known, set and planned stays.
pub record Adopts (machine : Running) (old new : Stage) : Type 0 where
  pub links : HasLinks old.core.site.tags machine.accepted.links
  pub same : new ≡ record old { core = adopting machine old.core }

-- ---- kinds of steps

-- By what is still to be written, and by devices that don't answer: the program doesn't run, and no time goes by. A wanted block
-- may be lost, and a write that is under way may be over, at any time. For the next plan of a device only a block is lost that there
-- is no request for.
pub data RoundStep (s t : Stage) : Type 0 where
  loses : (i : ℕ) → Loses i s t → RoundStep s t
  lacks : (i : ℕ) → Lacks i s t → RoundStep s t
  opens : (device : ℕ) (turn : Turn) → OpensNext device turn s t → RoundStep s t
  ends : (device : ℕ) → Ends device s t → RoundStep s t
  skips : (device : ℕ) → Skips device s t → RoundStep s t
  learns : (device : ℕ) (found : Option Layout) → Learns device found s t → RoundStep s t

-- By the time: the program runs, or time goes by beside its scans.
pub data TimeStep (s t : Stage) : Type 0 where
  scans : (now : ℕ) → Scans now s t → TimeStep s t
  waits : (ms : ℕ) → Waits ms s t → TimeStep s t

-- By what a device answers to a request for a wanted block.
abbrev pub DeviceStep : Stage → Stage → Type 0
DeviceStep s t = (i : ℕ) × (o : Outcome) × Tells i (fate.Told o) true s t

-- By what a client asks.
abbrev pub ClientStep : Stage → Stage → Type 0
ClientStep s t = (pdu : List ℕ) × Asks pdu s t

-- ---- one step after another

abbrev pub OwnStep : Stage → Stage → Type 0
OwnStep s t = RoundStep s t ⊎ DeviceStep s t

-- By these, by what clients ask and by the time: the program stays the one that runs.
abbrev pub RunStep : Stage → Stage → Type 0
RunStep s t = OwnStep s t ⊎ (ClientStep s t ⊎ TimeStep s t)

-- By another program.
abbrev pub AdoptStep : Stage → Stage → Type 0
AdoptStep s t = (machine : Running) × Adopts machine s t

abbrev pub AnyStep : Stage → Stage → Type 0
AnyStep s t = RunStep s t ⊎ AdoptStep s t

-- From the one stage to the other by such steps alone.
pub data CourseBy (Step : Stage → Stage → Type 0) : Stage → Stage → Type 0 where
  stays : (s : Stage) → CourseBy Step s s
  goes : {s t : Stage} → CourseBy Step s t → (u : Stage) → Step t u → CourseBy Step s u

-- Whatever led to the one stage leads to the other: such steps alone lie between.
abbrev pub LeadsOnBy : (Step : Stage → Stage → Type 0) → Stage → Stage → Type 0
LeadsOnBy Step old new = (from : Stage) → ∥ CourseBy Step from old ∥₁ → ∥ CourseBy Step from new ∥₁

-- The program runs once, at this time; before and after it are steps of a round alone. Of the stage right after it this is so.
pub record RunsOnce (After : Stage → Type 0) (now : ℕ) (old new : Stage) : Type 0 where
  pub before : Stage
  pub first : LeadsOnBy RoundStep old before
  pub scanned : Stage
  pub scans : Scans now before scanned
  pub after : After scanned
  pub then_on : LeadsOnBy RoundStep scanned new

-- It does, where this says so. Else it doesn't run.
abbrev pub RunsIf : Bool → (Stage → Type 0) → ℕ → Stage → Stage → Type 0
RunsIf true After now old new = RunsOnce After now old new
RunsIf false After now old new = LeadsOnBy RoundStep old new

-- A core on which nothing happened, before its first scan: no wanted block was told yet.
pub record IsFirst (s : Stage) : Type 0 where
  pub core : IsNew s.core
  pub round : IsRoundFor s.core.site s.round
  pub none : All IsUntold s.round.told

-- It came to this by steps alone, from a first stage.
pub record IsReached (s : Stage) : Type 0 where
  pub first : Stage
  pub opening : IsFirst first
  pub course : CourseBy AnyStep first s
