use Rattle.std.proofs.Common.{◌≡◌, drop, pos}
use Rattle.std.specs.List.{list_any}
use Rattle.std.specs.Ordering.{int_eq}
use Rattle.inverter_sim.proofs.reader.device.has_unit.Given as goal

abbrev pub invariant-loop-device : goal.invariant-loop-device
invariant-loop-device l = list_any (λ d. int_eq (pos d.unit) l.unit) l.devices ≡ list_any (λ d. int_eq (pos d.unit) l.unit) (drop l.device-index l.devices)
