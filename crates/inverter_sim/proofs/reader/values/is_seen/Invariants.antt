use Rattle.std.proofs.Common.{◌≡◌, ◌==◌, drop}
use Rattle.std.specs.List.{list_any}
use Rattle.inverter_sim.proofs.reader.values.is_seen.Given as goal

abbrev pub invariant-loop-other : goal.invariant-loop-other
invariant-loop-other l = list_any (λ s. s == l.at) l.seen ≡ list_any (λ s. s == l.at) (drop l.other-index l.seen)
