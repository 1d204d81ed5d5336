use Rattle.std.proofs.Common.{◌≡◌, map, ◌++◌, take, drop, length}
use Rattle.inverter_sim.specs.Tick.{metered}
use Rattle.inverter_sim.proofs.metering.meter_all.Given as goal

-- those before show what is drawn, and the others don't yet
abbrev pub invariant-loop-index : goal.invariant-loop-index
invariant-loop-index l =
    (l.devices ≡ map (metered l.initial.devices) (take l.index l.initial.devices) ++ drop l.index l.initial.devices)
    × (length l.devices ≡ length l.initial.devices)
