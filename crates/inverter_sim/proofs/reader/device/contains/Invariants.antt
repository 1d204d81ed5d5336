use Rattle.std.proofs.Common.{◌≡◌, drop}
use Rattle.std.specs.List.{list_any}
use Rattle.std.specs.Ordering.{int_eq}
use Rattle.inverter_sim.proofs.reader.device.contains.Given as goal

abbrev pub invariant-loop-other : goal.invariant-loop-other
invariant-loop-other l = list_any (int_eq l.number) l.numbers ≡ list_any (int_eq l.number) (drop l.other-index l.numbers)
