-- What one event does to a core, the machine that runs the program included.
-- IEC 61131-3 edition 2, 3.2 (one scan after another).
use Rattle.std.specs.Prelude.{◌≡◌, ℕ, map}
use Rattle.scan_vm.specs.Machine.{Scans}
use Rattle.gateway.specs.event_core.Control.{Advances}
use Rattle.gateway.specs.event_core.Core.{Gateway, numbers_of}
use Rattle.gateway.specs.event_core.SiteRun.{reading_at}
use Rattle.gateway.specs.declared.event_core.event.Answer.{Answer}
use Rattle.gateway.specs.declared.event_core.event.Event.{Event}
use Rattle.gateway.specs.declared.event_core.event.Event.TheVariants as event

-- it runs once, on this scan's readings of the program's tags
abbrev pub ScansOnce : ℕ → Gateway → Gateway → Type 0
ScansOnce depth old new =
    Scans depth old.machine (map (reading_at (new.standing.last).readings) (numbers_of old.machine.accepted)) (new.standing.last).steps new.machine

-- a scan runs it once, and every other event leaves it as it was
abbrev pub Drives : ℕ → Gateway → Event → Gateway → Type 0
Drives depth old event.Scan new = ScansOnce depth old new
Drives depth old (event.Block want words) new = new.machine ≡ old.machine
Drives depth old (event.Lost want) new = new.machine ≡ old.machine
Drives depth old (event.Time ms) new = new.machine ≡ old.machine
Drives depth old (event.Client pdu) new = new.machine ≡ old.machine

-- one event of the site run, what it does to the machine, and nothing else changes
abbrev pub TakesEvent : ℕ → Gateway → Event → Answer → Gateway → Type 0
TakesEvent depth old e a new = Advances old e a new × Drives depth old e new

-- the same, by a machine that has room for some number of deferred values; for how many isn't said
abbrev pub Happens : Gateway → Event → Answer → Gateway → Type 0
Happens old e a new = (depth : ℕ) × TakesEvent depth old e a new
