use Rattle.std.proofs.Common.{◌≡◌, length}
use Rattle.service.proofs.LastTold.{used_through}
use Rattle.service.proofs.last_told.use_ready.Given as goal

abbrev pub invariant-loop-i : goal.invariant-loop-i
invariant-loop-i l = (l.told ≡ used_through l.i l.initial.told l.initial.told) × (length l.told ≡ length l.initial.told)
