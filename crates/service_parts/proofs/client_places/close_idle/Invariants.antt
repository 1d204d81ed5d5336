use Rattle.std.proofs.Common.{◌≡◌, map, ◌++◌, take, drop, length}
use Rattle.service_parts.specs.Places.{closed_if_idle}
use Rattle.service_parts.proofs.client_places.close_idle.Given as goal

-- those before are closed where they are idle, and the others are as they were
abbrev pub invariant-loop-client : goal.invariant-loop-client
invariant-loop-client l = (l.places ≡ map (closed_if_idle l.now l.idle) (take l.client-index l.initial.places) ++ drop l.client-index l.initial.places) × (length l.places ≡ length l.initial.places)
