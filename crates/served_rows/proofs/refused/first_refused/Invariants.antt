use Rattle.std.proofs.Common.{◌≡◌, ℕ, ◌≤◌, ◌<◌, true}
use Rattle.served_rows.specs.Refusing.{may_write}
use Rattle.served_rows.proofs.refused.first_refused.Given as goal

abbrev pub invariant-loop-address : goal.invariant-loop-address
invariant-loop-address l = (register : ℕ) → l.span.first ≤ register → register < l.address → may_write l.tags l.rows l.span register ≡ true
