use Rattle.std.proofs.Common.{◌≡◌, drop}
use Rattle.inverter_sim.specs.Serve.{delay_among}
use Rattle.inverter_sim.proofs.plant.delay_among.Given as goal

-- none of those before has the unit
abbrev pub invariant-loop-device : goal.invariant-loop-device
invariant-loop-device l = delay_among l.devices l.unit ≡ delay_among (drop l.device-index l.devices) l.unit
