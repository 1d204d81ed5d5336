use Rattle.std.proofs.Common.{◌≡◌, ◌++◌, length, take, drop}
use Rattle.gateway.proofs.event_core.scan.copy_blocks.Given as goal

abbrev pub invariant-loop-i : goal.invariant-loop-i
invariant-loop-i l = (l.from ≡ take l.i l.into ++ drop l.i l.from) × (length l.into ≡ length l.from)
