-- The devices so far have these maps, and the link worked.
use Rattle.std.proofs.Common.{◌≡◌, ◌≤◌, take, length, vec_len, vec_capacity, None}
use Rattle.gateway.specs.poller.Asking.{Turned}
use Rattle.gateway.specs.poller.Finding.{FindsAll}
use Rattle.gateway.proofs.poller.line.Line.find.Given as goal

abbrev pub invariant-loop-device : goal.invariant-loop-device
invariant-loop-device g l =
    FindsAll (take l.device-index l.devices) (l.initial.self).polling l.maps.items (l.self).polling
    × Turned l.initial.self l.self
    × ((l.self.polling).fault ≡ None)
    × (vec_len l.maps ≡ l.device-index)
    × (length l.devices ≤ vec_capacity l.maps)
