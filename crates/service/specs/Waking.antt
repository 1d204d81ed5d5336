-- When a service is to be called again, by the time in milliseconds. No standard says it; it is this project's.
use Rattle.std.specs.Prelude.{◌≡◌, ◌⊎◌, ◌&&◌, ℕ, not, true, List, Some, slice_get}
use Rattle.service_parts.specs.declared.client_place.ClientPlace.{ClientPlace}
use Rattle.service_parts.specs.Backing.{after}
use Rattle.service_parts.specs.Waking.{IsDueOf}
use Rattle.service.specs.declared.service_state.Service.{Service}

-- At this time a client is to be closed that stays silent.
pub record IsCloseOf (places : List ClientPlace) (idle time : ℕ) : Type 0 where
  pub place : ℕ
  pub client : ClientPlace
  pub there : slice_get places place ≡ Some client
  pub waits : (client.is_taken && not client.is_closing) ≡ true
  pub due : time ≡ after client.last idle

-- It is the time of the next scan, or one at which something is to be done about a connection or a client.
abbrev pub IsWake : Service → ℕ → Type 0
IsWake s time = (time ≡ s.side.next_scan) ⊎ (IsDueOf s.lines.lines.items time ⊎ IsCloseOf s.places.items s.side.limits.idle time)
