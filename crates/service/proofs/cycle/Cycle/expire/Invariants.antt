use Rattle.std.proofs.Common.{◌≡◌, length}
use Rattle.service.specs.Cycle.{LeadsOn}
use Rattle.service.specs.Rounds.{AreRecentTo}
use Rattle.service.proofs.cycle.Cycle.expire.Given as goal

-- those before are recent
abbrev pub invariant-loop-i : goal.invariant-loop-i
invariant-loop-i l = LeadsOn l.fn.self l.self × (l.self.round.writes ≡ l.fn.self.round.writes) × (l.self.round.at ≡ l.fn.self.round.at) × (length l.self.round.told ≡ length l.fn.self.round.told) × AreRecentTo l.i l.self.round.told
