use Rattle.std.proofs.Common.{◌≡◌, map, ◌++◌, take, drop, length}
use Rattle.inverter_sim.specs.Tick.{ticked}
use Rattle.inverter_sim.proofs.plant.tick_all.Given as goal

-- those before have ticked, and the others haven't
abbrev pub invariant-loop-device : goal.invariant-loop-device
invariant-loop-device l = (l.devices ≡ map ticked (take l.device-index l.initial.devices) ++ drop l.device-index l.initial.devices) × (length l.devices ≡ length l.initial.devices)
