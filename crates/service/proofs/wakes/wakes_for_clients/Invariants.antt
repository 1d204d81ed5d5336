use Rattle.std.proofs.Common.{◌≡◌, ◌≤◌, ◌<◌, ◌&&◌, not, true, ℕ, Some, slice_get}
use Rattle.service_parts.specs.declared.client_place.ClientPlace.{ClientPlace}
use Rattle.service_parts.specs.Backing.{after}
use Rattle.service.proofs.Waking.{IsOneOf}
use Rattle.service.proofs.wakes.wakes_for_clients.Given as goal

abbrev pub invariant-loop-place : goal.invariant-loop-place
invariant-loop-place l =
    (l.at ≤ l.initial.at) × ((k : ℕ) (c : ClientPlace) → k < l.place → slice_get l.places k ≡ Some c → (c.is_taken && not c.is_closing) ≡ true → l.at ≤ after c.last l.idle) × IsOneOf l.initial.at l.places l.idle l.at
