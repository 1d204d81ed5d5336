use Rattle.std.proofs.Common.{◌≡◌}
use Rattle.service.specs.Cycle.{LeadsOn}
use Rattle.service.proofs.cycle.Cycle.next_read.Given as goal

abbrev pub invariant-loop : goal.invariant-loop
invariant-loop l = LeadsOn l.fn.self l.self × (l.self.round.writes ≡ l.fn.self.round.writes) × (l.self.round.at ≡ l.fn.self.round.at)
