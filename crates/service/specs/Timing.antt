-- When the program runs, by the service's time (IEC 61131-3 edition 2, 2.7.2: a task's INTERVAL). What is late is this project's.
use Rattle.std.specs.Prelude.{◌≡◌, ℕ, [], length, ◌+◌, ◌-◌, ◌*◌, ◌^◌, max, min, nat_le, nat_lt, if◌then◌else◌}
use Rattle.service_parts.specs.declared.limits.Limits.{Limits}
use Rattle.service.specs.declared.device_side.DeviceSide.{DeviceSide}
use Rattle.service.specs.declared.service_state.Service.{Service}
use Rattle.service.specs.declared.last_scan.LastScan.{LastScan}
use Rattle.service.specs.Counting.{came_to, one_more}

-- ---- when the next scan is

-- a time so much later, the last one at most
abbrev pub so_much_later : ℕ → ℕ → ℕ
so_much_later time wait = min (time + wait) (2 ^ 64 - 1)

-- A scan that comes more than a period after its time is late: what was missed isn't made up for.
abbrev pub planned_from : (period now at : ℕ) → ℕ
planned_from period now at = if nat_lt (so_much_later at period) now then now else at

-- the time that was planned, where it isn't over yet, or else a period from now on
abbrev pub not_over : (period now at : ℕ) → ℕ
not_over period now at = if nat_le at now then so_much_later now (max period 1) else at

-- The scan that was to be at this time is now: when the next one is to be.
abbrev pub scan_after : (period now at : ℕ) → ℕ
scan_after period now at = not_over period now (so_much_later (planned_from period now at) period)

-- ---- devices and times

-- how many notes have room: four of each device and each output, and some more
abbrev pub most_notes : (devices outputs : ℕ) → ℕ
most_notes devices outputs = (devices + outputs) * 4 + 16

-- It begins at this time: nothing happened so far, and the first scan is a period from now. There is room for notes.
pub record Starts (now : ℕ) (limits : Limits) (side : DeviceSide) : Type 0 where
  pub time : side.now ≡ now
  pub limited : side.limits ≡ limits
  pub next : side.next_scan ≡ so_much_later now limits.period
  pub scans : side.scans ≡ 0
  pub none : side.notes.items.items ≡ []
  pub room : side.notes.items.cap ≡ most_notes (length side.devices.items) (length side.outputs.items)

-- The time stays, no scan is counted, and the next one stays when it is; what the last one came to stays.
pub record KeepsTime (old new : DeviceSide) : Type 0 where
  pub now : new.now ≡ old.now
  pub next : new.next_scan ≡ old.next_scan
  pub scans : new.scans ≡ old.scans
  pub limits : new.limits ≡ old.limits
  pub last : new.last_scan ≡ old.last_scan

-- How many writes went out of which something came, and how many of these weren't done, stays.
pub record KeepsCounts (old new : DeviceSide) : Type 0 where
  pub writes : new.writes ≡ old.writes
  pub refused : new.refused ≡ old.refused

-- The scan that is due is planned now.
pub record PlansScan (old new : DeviceSide) : Type 0 where
  pub now : new.now ≡ old.now
  pub next : new.next_scan ≡ scan_after old.limits.period old.now old.next_scan
  pub scans : new.scans ≡ old.scans
  pub limits : new.limits ≡ old.limits

-- It is counted, and came to this.
pub record CountsScan (came : LastScan) (old new : DeviceSide) : Type 0 where
  pub now : new.now ≡ old.now
  pub next : new.next_scan ≡ old.next_scan
  pub scans : new.scans ≡ one_more old.scans
  pub limits : new.limits ≡ old.limits
  pub last : new.last_scan ≡ came

-- ---- a service

-- No time goes by, and the program doesn't run.
pub record StaysAt (old new : Service) : Type 0 where
  pub side : KeepsTime old.side new.side
  pub at : new.cycle.round.at ≡ old.cycle.round.at

-- The time goes up to this, and the program doesn't run.
pub record TurnsTo (time : ℕ) (old new : Service) : Type 0 where
  pub now : new.side.now ≡ max old.side.now time
  pub next : new.side.next_scan ≡ old.side.next_scan
  pub scans : new.side.scans ≡ old.side.scans
  pub limits : new.side.limits ≡ old.side.limits
  pub last : new.side.last_scan ≡ old.side.last_scan
  pub at : new.cycle.round.at ≡ old.cycle.round.at

-- The program runs now, and is counted.
pub record RunsNow (old new : Service) : Type 0 where
  pub side : CountsScan (came_to new.cycle.core.value.standing.last) old.side new.side
  pub at : new.cycle.round.at ≡ old.side.now

-- The program runs now, which was planned.
pub record ScansNow (old new : Service) : Type 0 where
  pub now : new.side.now ≡ old.side.now
  pub next : new.side.next_scan ≡ scan_after old.side.limits.period old.side.now old.side.next_scan
  pub scans : new.side.scans ≡ one_more old.side.scans
  pub limits : new.side.limits ≡ old.side.limits
  pub at : new.cycle.round.at ≡ old.side.now

-- The time goes up to this. The program runs, once and at this very time, just where that is due.
pub record Ticks (time : ℕ) (old new : Service) : Type 0 where
  pub now : new.side.now ≡ max old.side.now time
  pub limits : new.side.limits ≡ old.side.limits
  pub next : new.side.next_scan ≡ (if nat_le old.side.next_scan (max old.side.now time) then scan_after old.side.limits.period (max old.side.now time) old.side.next_scan else old.side.next_scan)
  pub scans : new.side.scans ≡ (if nat_le old.side.next_scan (max old.side.now time) then one_more old.side.scans else old.side.scans)
  pub at : new.cycle.round.at ≡ (if nat_le old.side.next_scan (max old.side.now time) then max old.side.now time else old.cycle.round.at)
