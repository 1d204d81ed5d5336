use Rattle.std.proofs.Common.{◌≡◌, ◌++◌, drop, map}
use Rattle.service_loop.proofs.device_sockets.DeviceSockets.new.Given as goal

-- those so far are to the first addresses, in order
abbrev pub invariant-loop-address : goal.invariant-loop-address
invariant-loop-address l = map (λ link. link.address) l.links.items ++ drop l.address-index l.addresses ≡ l.addresses
