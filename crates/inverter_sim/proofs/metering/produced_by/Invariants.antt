use Rattle.std.proofs.Common.{◌≡◌, ◌+◌, ◌*◌, ◌≤◌, drop}
use Rattle.inverter_sim.specs.Tick.{produced_by}
use Rattle.inverter_sim.proofs.metering.produced_by.Given as goal

-- the watts so far, and those of what remains
abbrev pub invariant-loop-device : goal.invariant-loop-device
invariant-loop-device l = (produced_by l.units l.devices ≡ l.sum + produced_by l.units (drop l.device-index l.devices)) × (l.sum ≤ 1000000 * l.device-index)
