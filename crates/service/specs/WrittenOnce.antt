-- What is written after a scan: each output once at most before the next one, whatever steps a service makes
-- (Modbus Application Protocol V1.1b3, sections 6.6 and 6.12).
use Rattle.std.specs.Prelude.{ℕ, ◌+◌, ◌≤◌, Bool, List, [], ◌∷◌, ◌++◌, length, Option}
use Rattle.register_map.specs.Layout.{Layout}
use Rattle.scan_vm.specs.Machine.{Running}
use Rattle.service_requests.specs.declared.request_end.RequestEnd.{RequestEnd}
use Rattle.service_requests.specs.Tasks.{next_place}
use Rattle.service.specs.declared.round.Turn.{Turn}
use Rattle.service_requests.specs.declared.task.Task.{Task}
use Rattle.service_parts.specs.declared.device_connection.DeviceConnection.{DeviceConnection}
use Rattle.service_parts.specs.declared.limits.Limits.{Limits}
use Rattle.service_parts.specs.Frames.{IsLed, begun, due_at, times_asked}
use Rattle.service.specs.Rounds.{asked_of}
use Rattle.service.specs.Stages.{Adopts, Asks, Ends, Learns, OpensNext, Scans, Skips, Stage, Tells, Waits}

-- After a scan, before the next one: the numbers of the outputs whose requests went out, the last one first. Beside them blocks
-- are told and lost, clients ask, time goes by, maps are found and forgotten, and other programs are put in.
pub data AfterScan (scanned : Stage) : List ℕ → Stage → Type 0 where
  done : AfterScan scanned [] scanned
  opened : {asked : List ℕ} {s : Stage} → AfterScan scanned asked s → (device : ℕ) (turn : Turn) (t : Stage) → OpensNext device turn s t → AfterScan scanned (asked_of (next_place device s.round.writes) turn ++ asked) t
  ended : {asked : List ℕ} {s : Stage} → AfterScan scanned asked s → (device : ℕ) (t : Stage) → Ends device s t → AfterScan scanned asked t
  skipped : {asked : List ℕ} {s : Stage} → AfterScan scanned asked s → (device : ℕ) (t : Stage) → Skips device s t → AfterScan scanned asked t
  told : {asked : List ℕ} {s : Stage} → AfterScan scanned asked s → (i : ℕ) (f : RequestEnd) (is_new : Bool) (t : Stage) → Tells i f is_new s t → AfterScan scanned asked t
  learned : {asked : List ℕ} {s : Stage} → AfterScan scanned asked s → (device : ℕ) (found : Option Layout) (t : Stage) → Learns device found s t → AfterScan scanned asked t
  waited : {asked : List ℕ} {s : Stage} → AfterScan scanned asked s → (ms : ℕ) (t : Stage) → Waits ms s t → AfterScan scanned asked t
  heard : {asked : List ℕ} {s : Stage} → AfterScan scanned asked s → (pdu : List ℕ) (t : Stage) → Asks pdu s t → AfterScan scanned asked t
  adopted : {asked : List ℕ} {s : Stage} → AfterScan scanned asked s → (machine : Running) (t : Stage) → Adopts machine s t → AfterScan scanned asked t

-- From a scan to the next one a service asks to write each output once at most.
abbrev pub EachScanWritesOnce : Type 0
EachScanWritesOnce = (now : ℕ) (old scanned s : Stage) (asked : List ℕ) → Scans now old scanned → AfterScan scanned asked s → (i : ℕ) → times_asked i asked ≤ 1

-- ---- what goes out

-- in how many of these an output's write is still to be made
abbrev pub times_due : ℕ → List (List Task) → ℕ
times_due output [] = 0
times_due output (tasks ∷ scans) = due_at output tasks + times_due output scans

-- Calls, one after another, as far as one link goes. By each of them the service goes on by itself from some line on: from the one
-- that was there, or from what became of it when bytes were heard or written, or a stream began. Of each run of the program there is
-- what was still to be written right after it, and the writes of these outputs began over the link, the last one first.
pub data OverLink (link : ℕ) (first : List Task) : List (List Task) → List ℕ → List Task → Type 0 where
  none : OverLink link first [] [] first
  calls : {scans : List (List Task)} {asked : List ℕ} {before : List Task} → OverLink link first scans asked before → (runs : List (List Task)) (now : ℕ) (limits : Limits) (from : DeviceConnection) (after : List Task) (lines : List DeviceConnection)
      → (led : IsLed now limits (λ output. due_at output before + times_due output runs) from after lines link) → OverLink link first (runs ++ scans) (begun led.course ++ asked) after

-- No more writes of an output begin than runs of the program after which one was still to be made, and one more where one was at
-- first. So there are no more than the program ran, and that one.
pub record EachRunIsWrittenOnce : Type 0 where
  pub planned : (link : ℕ) (first : List Task) (scans : List (List Task)) (asked : List ℕ) (after : List Task) → OverLink link first scans asked after
      → (output : ℕ) → times_asked output asked + due_at output after ≤ due_at output first + times_due output scans
  pub ran : (output : ℕ) (scans : List (List Task)) → times_due output scans ≤ length scans
