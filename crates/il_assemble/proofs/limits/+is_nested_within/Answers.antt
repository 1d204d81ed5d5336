use Rattle.std.proofs.Common.{rules}
use Rattle.il_assemble.proofs.Forms.{deferred}
use Rattle.il_assemble.proofs.limits.+is_nested_within.Goals as goal

pub is_nested_within-returns-then-room-ge1 : goal.is_nested_within-returns-then-room-ge1
is_nested_within-returns-then-room-ge1 t c = rw (c.in-Defer.is, deferred c.in-Defer.operator c.in-Defer.negated c.in-Defer.operand c.in-Defer.inner) (search rules)
