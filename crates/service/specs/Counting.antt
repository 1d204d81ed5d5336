-- How often devices were asked, planned and lost, and how long their replies take. No standard says what is counted; it is this
-- project's.
use Rattle.std.specs.Prelude.{◌≡◌, ◌⊎◌, ℕ, ◌+◌, ◌-◌, ◌/◌, ◌^◌, ◌==◌, min, max, Bool, not, Option, is_none, option_map, count_by, slice_get, if◌then◌else◌}
use Rattle.gateway.specs.event_core.SiteRun.{Scanned}
use Rattle.service.specs.declared.counts.Counts.{Counts}
use Rattle.service.specs.declared.last_scan.LastScan.{LastScan}
use Rattle.service.specs.declared.polled_device.PolledDevice.{PolledDevice}
use Rattle.service.specs.declared.device_side.DeviceSide.{DeviceSide}
use Rattle.service.specs.declared.notice.Loss.{Loss}
use Rattle.service.specs.declared.replies.Replies.{Replies}
use Rattle.service.specs.declared.notice.Loss.TheVariants as loss

-- a count that is full stays
abbrev pub one_more : ℕ → ℕ
one_more n = min (n + 1) (2 ^ 64 - 1)

abbrev pub asked_once_more : Counts → Counts
asked_once_more c = record c { requests = one_more c.requests }

abbrev pub lost_once_more : Loss → Counts → Counts
lost_once_more loss.Down c = record c { down = one_more c.down }
lost_once_more loss.Silent c = record c { silent = one_more c.silent }
lost_once_more loss.Frame c = record c { frame = one_more c.frame }
lost_once_more loss.Stale c = record c { stale = one_more c.stale }
lost_once_more loss.Gateway c = record c { gateway = one_more c.gateway }

-- A reply came after so many milliseconds: the longest lately loses a tenth by each later one, and is 1 at least.
abbrev pub after_reply : ℕ → Replies → Replies
after_reply reply r = record {
  lately = max (max reply (r.lately - r.lately / 10)) 1;
  least = if r.lately == 0 then reply else min r.least reply;
  most = max r.most reply;
}

-- A scan plans the device's outputs, the first so many scans after the last one that did, or passes it over.
abbrev pub scanned_by : Bool → PolledDevice → PolledDevice
scanned_by is_planned own = record own {
  is_behind = not is_planned;
  scans = if is_planned then 0 else one_more own.scans;
  each = if is_planned then one_more own.scans else own.each;
}

-- what is counted of a device
abbrev pub counts_at : DeviceSide → ℕ → Option Counts
counts_at side device = option_map (λ (own : PolledDevice). own.counts) (slice_get side.devices.items device)

-- What is counted of each device stays.
abbrev pub KeepsLosses : DeviceSide → DeviceSide → Type 0
KeepsLosses old new = (device : ℕ) → counts_at new device ≡ counts_at old device

-- This device is lost once more for this; what is counted of each other one stays.
pub record CountsLoss (device : ℕ) (cause : Loss) (old new : DeviceSide) : Type 0 where
  pub own : counts_at new device ≡ option_map (lost_once_more cause) (counts_at old device)
  pub others : (other : ℕ) → (other ≡ device → ⊥) → counts_at new other ≡ counts_at old other

-- Each device is lost once more for this, or isn't: none is counted twice.
abbrev pub CountsOneLossAtMost : Loss → DeviceSide → DeviceSide → Type 0
CountsOneLossAtMost cause old new = (device : ℕ) → (counts_at new device ≡ counts_at old device) ⊎ (counts_at new device ≡ option_map (lost_once_more cause) (counts_at old device))

-- ---- what a scan comes to

-- after how many instructions it ended, and how many wanted blocks it had nothing of
abbrev pub came_to : Scanned → LastScan
came_to last = record { steps = last.steps; lost = count_by is_none last.blocks }
