use Rattle.std.proofs.Common.{◌≡◌, ◌≤◌, drop, length}
use Rattle.service_requests.proofs.Heard.{HeardSoFar}
use Rattle.service_requests.proofs.pending_request.hear.Given as goal

abbrev pub invariant-loop-may_drop : goal.invariant-loop-may_drop
invariant-loop-may_drop l =
    HeardSoFar (record { held = l.initial.framer; unfed = l.fn.bytes }) l.fn.wait l.may_drop (record { held = l.framer; unfed = drop l.used l.fn.bytes })
    × (l.wait-inside ≡ l.initial.wait-inside) × (l.used ≤ length l.fn.bytes)

abbrev pub decreases-loop-may_drop : goal.decreases-loop-may_drop
decreases-loop-may_drop l = l.may_drop
