use Rattle.std.proofs.Common.{rules}
use Rattle.il_assemble.proofs.Forms.{deferred}
use Rattle.il_assemble.proofs.check.+check_simple.Goals as goal

pub check_simple-returns-in_ok-at_line-in-Defer : goal.check_simple-returns-in_ok-at_line-in-Defer
check_simple-returns-in_ok-at_line-in-Defer t c = rw (c.in-Defer.is, deferred c.in-Defer.operator c.in-Defer.negated c.in-Defer.operand c.in-Defer.inner) (search rules)
