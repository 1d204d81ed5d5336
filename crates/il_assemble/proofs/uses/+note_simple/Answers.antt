use Rattle.std.proofs.Common.{rules}
use Rattle.il_assemble.proofs.Forms.{deferred}
use Rattle.il_assemble.proofs.uses.+note_simple.Goals as goal

pub note_simple-returns-in-Defer : goal.note_simple-returns-in-Defer
note_simple-returns-in-Defer t c = rw (c.in-Defer.is, deferred c.in-Defer.operator c.in-Defer.negated c.in-Defer.operand c.in-Defer.inner) (search rules)
