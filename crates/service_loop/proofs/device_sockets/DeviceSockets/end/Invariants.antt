use Rattle.std.proofs.Common.{◌≡◌, map}
use Rattle.service_loop.proofs.device_sockets.DeviceSockets.end.Given as goal

-- the addresses are as they were
abbrev pub invariant-loop-link : goal.invariant-loop-link
invariant-loop-link l = map (λ link. link.address) l.link-items ≡ map (λ link. link.address) l.initial.link-items
