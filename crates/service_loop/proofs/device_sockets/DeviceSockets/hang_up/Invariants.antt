use Rattle.std.proofs.Common.{◌≡◌, map}
use Rattle.service_loop.proofs.device_sockets.DeviceSockets.hang_up.Given as goal

-- the addresses are as they were
abbrev pub invariant-loop-number : goal.invariant-loop-number
invariant-loop-number l = map (λ link. link.address) l.link-items ≡ map (λ link. link.address) l.initial.link-items
