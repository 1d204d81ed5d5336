use Rattle.service.proofs.Having.{IsForgotTo}
use Rattle.service.proofs.held_writes.HeldWrites.forget.Given as goal

abbrev pub invariant-loop-i : goal.invariant-loop-i
invariant-loop-i l = IsForgotTo l.device l.i l.initial.self l.self
