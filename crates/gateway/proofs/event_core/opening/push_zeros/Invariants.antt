use Rattle.std.proofs.Common.{◌≡◌, ◌+◌, length}
use Rattle.gateway.proofs.event_core.opening.push_zeros.Given as goal

abbrev pub invariant-loop : goal.invariant-loop
invariant-loop l = length l.image.items ≡ length l.initial.image.items + l.counter
