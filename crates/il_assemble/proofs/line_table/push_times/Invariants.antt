use Rattle.std.proofs.Common.{◌≡◌, ◌++◌, replicate}
use Rattle.il_assemble.proofs.line_table.push_times.Given as goal

abbrev pub invariant-loop : goal.invariant-loop
invariant-loop l = l.lines.items ≡ l.initial.lines.items ++ replicate l.counter l.line
