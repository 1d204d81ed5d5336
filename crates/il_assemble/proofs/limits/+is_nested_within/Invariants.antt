use Rattle.std.proofs.Common.{◌≡◌, drop}
use Rattle.il_assemble.specs.Elaboration.{is_inner_within}
use Rattle.il_assemble.specs.Written.{written_inner}
use Rattle.il_assemble.proofs.limits.+is_nested_within.Given as goal

abbrev pub invariant-is_inner_within-loop-line : goal.invariant-is_inner_within-loop-line
invariant-is_inner_within-loop-line l = is_inner_within l.room (written_inner (drop l.line-index l.inner)) ≡ is_inner_within l.room (written_inner l.inner)
