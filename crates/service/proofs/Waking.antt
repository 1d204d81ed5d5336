-- When a service is to be called again.
use Rattle.std.proofs.Common.{◌≡◌, ◌⊎◌, inl, inr, ℕ, true, not, ◌&&◌, List, Some, slice_get, ◌∙◌}
use Rattle.service_parts.specs.declared.client_place.ClientPlace.{ClientPlace}
use Rattle.service_parts.specs.declared.device_connection.DeviceConnection.{DeviceConnection}
use Rattle.service_parts.specs.Backing.{after}
use Rattle.service_parts.specs.Waking.{IsDueOf}
use Rattle.service.specs.Waking.{IsCloseOf}

-- the time that was given, or one at which a client is to be closed
abbrev pub IsOneOf : (at : ℕ) → List ClientPlace → (idle time : ℕ) → Type 0
IsOneOf at places idle time = (time ≡ at) ⊎ IsCloseOf places idle time

pub one_further : (at : ℕ) (places : List ClientPlace) (idle before time place : ℕ) (c : ClientPlace) → IsOneOf at places idle before → slice_get places place ≡ Some c
    → ((time ≡ before) ⊎ (((c.is_taken && not c.is_closing) ≡ true) × (time ≡ after c.last idle))) → IsOneOf at places idle time
one_further at places idle before time place c (inl same) there (inl stays) = inl (stays ∙ same)
one_further at places idle before time place c (inr close) there (inl stays) = inr (record { place = close.place; client = close.client; there = close.there; waits = close.waits; due = stays ∙ close.due })
one_further at places idle before time place c one there (inr own) = inr (record { place = place; client = c; there = there; waits = own.0; due = own.1 })

pub one_of_all : (scan at time idle : ℕ) (lines : List DeviceConnection) (places : List ClientPlace) → ((at ≡ scan) ⊎ IsDueOf lines at) → IsOneOf at places idle time → (time ≡ scan) ⊎ (IsDueOf lines time ⊎ IsCloseOf places idle time)
one_of_all scan at time idle lines places (inl same) (inl is) = inl (is ∙ same)
one_of_all scan at time idle lines places (inr due) (inl is) = inr (inl (record { link = due.link; line = due.line; there = due.there; due = is ∙ due.due }))
one_of_all scan at time idle lines places before (inr close) = inr (inr close)
