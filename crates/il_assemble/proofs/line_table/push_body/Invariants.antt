use Rattle.std.proofs.Common.{◌≡◌, ◌++◌, drop}
use Rattle.il_assemble.specs.LineForms.{body_lines}
use Rattle.il_assemble.proofs.line_table.push_body.Given as goal

abbrev pub invariant-loop-statement : goal.invariant-loop-statement
invariant-loop-statement l = l.lines.items ++ body_lines (drop l.statement-index l.statements) ≡ l.initial.lines.items ++ body_lines l.statements
