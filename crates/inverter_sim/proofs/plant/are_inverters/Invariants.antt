use Rattle.std.proofs.Common.{◌≡◌, drop}
use Rattle.std.specs.List.{list_all}
use Rattle.inverter_sim.specs.File.{is_inverter}
use Rattle.inverter_sim.proofs.plant.are_inverters.Given as goal

abbrev pub invariant-loop-device : goal.invariant-loop-device
invariant-loop-device l = list_all (λ d. is_inverter d.works) l.devices ≡ list_all (λ d. is_inverter d.works) (drop l.device-index l.devices)
