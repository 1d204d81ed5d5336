use Rattle.std.proofs.Common.{◌≡◌, ◌==◌, drop}
use Rattle.std.specs.List.{list_any}
use Rattle.inverter_sim.proofs.reader.faults.not_seen.Given as goal

abbrev pub invariant-loop-other : goal.invariant-loop-other
invariant-loop-other l = list_any (λ s. s.request == l.fault.request) l.seen ≡ list_any (λ s. s.request == l.fault.request) (drop l.other-index l.seen)
