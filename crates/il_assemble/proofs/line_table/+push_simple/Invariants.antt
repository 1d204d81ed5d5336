use Rattle.std.proofs.Common.{◌≡◌, ◌++◌, drop}
use Rattle.il_assemble.specs.LineForms.{inner_lines}
use Rattle.il_assemble.specs.Written.{written_inner}
use Rattle.il_assemble.proofs.line_table.+push_simple.Given as goal

abbrev pub invariant-push_inner-loop-line : goal.invariant-push_inner-loop-line
invariant-push_inner-loop-line l = l.lines.items ++ inner_lines (written_inner (drop l.line-index l.inner)) ≡ l.initial.lines.items ++ inner_lines (written_inner l.inner)
