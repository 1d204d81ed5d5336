use Rattle.std.proofs.Common.{◌≡◌, ◌++◌, drop}
use Rattle.service_alarms.specs.Alarms.{devices_amiss, of_device, of_each}
use Rattle.service_alarms.proofs.devices.push_devices.Given as goal

-- what is done, and then what remains
abbrev pub invariant-loop-i : goal.invariant-loop-i
invariant-loop-i l = l.initial.alarms ++ devices_amiss l.devices ≡ l.alarms ++ of_each of_device l.i (drop l.i l.devices)
