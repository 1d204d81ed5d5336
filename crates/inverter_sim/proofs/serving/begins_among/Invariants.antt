use Rattle.std.proofs.Common.{◌≡◌, drop}
use Rattle.inverter_sim.specs.Link.{begins_among}
use Rattle.inverter_sim.proofs.serving.begins_among.Given as goal

-- none of those before has the unit
abbrev pub invariant-loop-device : goal.invariant-loop-device
invariant-loop-device l = begins_among l.devices l.frame ≡ begins_among (drop l.device-index l.devices) l.frame
