-- How long a request may take, which one took its time, and which devices are reached over a link. No standard says it; it is
-- this project's.
use Rattle.std.specs.Prelude.{◌≡◌, ◌≤◌, ℕ, ◌*◌, ◌/◌, ◌==◌, ◌&&◌, not, min, max, nat_le, Bool, false, List, Option, None, Some, option_and_then, slice_get, if◌then◌else◌}
use Rattle.service_parts.specs.declared.limits.Limits.{Limits}
use Rattle.service_parts.specs.declared.limits.Station.{Station}
use Rattle.service_parts.specs.declared.device_connection.DeviceConnection.{DeviceConnection}
use Rattle.service_parts.specs.declared.asked.Asked.{Asked}
use Rattle.service_parts.specs.Backing.{after}

-- the least time that an answer has: three fifths of that of a device that never answered, and more than nothing; or as long as
-- any may take, where that is less
abbrev pub least_wait : Limits → ℕ
least_wait limits = min (max (limits.first_wait / 5 * 3) 1) limits.timeout

-- A request that begins at this time: its answer is waited for from then on, for the least time at least, and no longer than any
-- answer may take.
pub record IsTimed (now : ℕ) (limits : Limits) (asked : Asked) : Type 0 where
  pub since : asked.since ≡ now
  pub least : after now (least_wait limits) ≤ asked.until
  pub most : asked.until ≤ after now limits.timeout

-- A device is reached over a link.
pub record IsAt (stations : List Station) (link device : ℕ) : Type 0 where
  pub unit : ℕ
  pub there : slice_get stations device ≡ Some (record { link = link; unit = unit })

-- the request that is under way on a link
abbrev pub asked_at : List DeviceConnection → ℕ → Option Asked
asked_at lines link = option_and_then (λ (line : DeviceConnection). line.asked) (slice_get lines link)

abbrev pub is_over : ℕ → Option Asked → Bool
is_over now None = false
is_over now (Some asked) = nat_le asked.until now

abbrev pub if_over : ℕ → Asked → Option Asked
if_over now asked = if nat_le asked.until now then Some asked else None

-- the same, where its time is over
abbrev pub overdue_at : List DeviceConnection → ℕ → ℕ → Option Asked
overdue_at lines now link = option_and_then (if_over now) (asked_at lines link)

-- One is still under way whose time is over, and which didn't begin at this very time.
abbrev pub is_left : ℕ → Option Asked → Bool
is_left now None = false
is_left now (Some asked) = nat_le asked.until now && not (asked.since == now)

-- None is, on any link that had a line before.
abbrev pub NoneIsLeft : (now : ℕ) → (before lines : List DeviceConnection) → Type 0
NoneIsLeft now before lines = (link : ℕ) (line : DeviceConnection) → slice_get before link ≡ Some line → is_left now (asked_at lines link) ≡ false
