use Rattle.std.proofs.Common.{◌≡◌, length, All}
use Rattle.history.specs.Events.{HasRoom}
use Rattle.history.proofs.event_ring.free_rooms.Given as goal

abbrev pub invariant-loop : goal.invariant-loop
invariant-loop l = All HasRoom l.rooms.items × (length l.rooms.items ≡ l.counter)
