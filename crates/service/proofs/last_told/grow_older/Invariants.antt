use Rattle.std.proofs.Common.{◌≡◌, map, ◌++◌, take, drop, length}
use Rattle.service.specs.Rounds.{older}
use Rattle.service.proofs.last_told.grow_older.Given as goal

-- those before are older, and the others are as they were
abbrev pub invariant-loop-i : goal.invariant-loop-i
invariant-loop-i l = (l.told ≡ map older (take l.i l.initial.told) ++ drop l.i l.initial.told) × (length l.told ≡ length l.initial.told)
