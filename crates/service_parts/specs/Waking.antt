-- When something is to be done about a connection or a client, by the time in milliseconds. No standard says it; it is this
-- project's.
use Rattle.std.specs.Prelude.{◌≡◌, ◌≤◌, ℕ, ◌-◌, ◌^◌, ◌==◌, Bool, true, false, not, ◌&&◌, List, length, slice_get, Option, None, Some, if◌then◌else◌}
use Rattle.std.specs.Option.{option_map_or}
use Rattle.service_parts.specs.declared.device_connection.DeviceConnection.{DeviceConnection}
use Rattle.service_parts.specs.declared.asked.Asked.{Asked}

-- whether nothing waits to be written
abbrev pub is_quiet : DeviceConnection → Bool
is_quiet line = length line.out.items == 0

-- where no request is under way: once all is written, when a device may be asked again
abbrev pub due_idle : Bool → DeviceConnection → ℕ
due_idle true line = line.rest_until
due_idle false line = 2 ^ 64 - 1

abbrev pub due_up : Bool → Option Asked → DeviceConnection → ℕ
due_up is_sent (Some asked) line = asked.until
due_up is_sent None line = due_idle is_sent line

abbrev pub due_down : Option ℕ → DeviceConnection → ℕ
due_down (Some until) line = until
due_down None line = line.dial_at

-- A wait ends, or a device may be asked again; a dial ends, or is due.
abbrev pub due_at : DeviceConnection → ℕ
due_at line = if line.is_up then due_up (is_quiet line) line.asked line else due_down line.dial_until line

-- Something is to be done about one of these at this time.
pub record IsDueOf (lines : List DeviceConnection) (time : ℕ) : Type 0 where
  pub link : ℕ
  pub line : DeviceConnection
  pub there : slice_get lines link ≡ Some line
  pub due : time ≡ due_at line

-- It is down, no dial is under way, and its back-off is over.
pub record IsToDial (now : ℕ) (line : DeviceConnection) : Type 0 where
  pub down : line.is_up ≡ false
  pub none : line.dial_until ≡ None
  pub due : line.dial_at ≤ now

-- The dial that is under way took its time; or, where none is, the connection is up and its stream was spoilt.
abbrev pub IsToEnd : ℕ → Option ℕ → DeviceConnection → Type 0
IsToEnd now (Some until) line = until ≤ now
IsToEnd now None line = (line.is_up ≡ true) × (line.is_bad ≡ true)

abbrev pub IsToHangUp : ℕ → DeviceConnection → Type 0
IsToHangUp now line = IsToEnd now line.dial_until line

-- whether the connection of a link is up
abbrev pub is_up_at : List DeviceConnection → ℕ → Bool
is_up_at lines link = option_map_or (λ (line : DeviceConnection). line.is_up) (slice_get lines link) false

-- whether the connection of a link is up, and nothing is wrong with it
abbrev pub is_well_at : List DeviceConnection → ℕ → Bool
is_well_at lines link = option_map_or (λ (line : DeviceConnection). line.is_up && not line.is_bad) (slice_get lines link) false
