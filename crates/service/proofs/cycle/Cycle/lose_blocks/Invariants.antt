use Rattle.std.proofs.Common.{◌≡◌}
use Rattle.service.specs.Cycle.{LeadsOn}
use Rattle.service.proofs.Forgetting.{so_far}
use Rattle.service.proofs.cycle.Cycle.lose_blocks.Given as goal

abbrev pub invariant-loop-i : goal.invariant-loop-i
invariant-loop-i l = LeadsOn l.fn.self l.self × (l.self.core.value ≡ so_far l.fn.device l.i l.fn.self.core.value) × (l.self.round.writes ≡ l.fn.self.round.writes) × (l.self.round.at ≡ l.fn.self.round.at)
