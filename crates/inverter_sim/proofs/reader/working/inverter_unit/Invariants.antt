use Rattle.std.proofs.Common.{◌≡◌, drop}
use Rattle.inverter_sim.specs.File.{is_inverter_of}
use Rattle.inverter_sim.proofs.reader.working.inverter_unit.Given as goal

abbrev pub invariant-loop-device : goal.invariant-loop-device
invariant-loop-device l = is_inverter_of l.devices l.number ≡ is_inverter_of (drop l.device-index l.devices) l.number
