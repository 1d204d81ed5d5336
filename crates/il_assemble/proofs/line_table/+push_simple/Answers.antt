use Rattle.std.proofs.Common.{◌∙◌, ◌+◌, ◌++◌, ap, replicate, rules}
use Rattle.il_assemble.specs.LineForms.{count_first, count_not, inner_lines}
use Rattle.il_assemble.specs.Written.{written_inner}
use Rattle.il_assemble.proofs.Forms.{deferred}
use Rattle.il_assemble.proofs.TabledLines.{three_parts}
use Rattle.il_assemble.proofs.line_table.+push_simple.Goals as goal

pub push_simple-returns-in_ok-push_times-in-Defer-2 : goal.push_simple-returns-in_ok-push_times-in-Defer-2
push_simple-returns-in_ok-push_times-in-Defer-2 t c =
    let line = c.args.line in
    let old = c.args.lines.now.items in
    let opened = c.push_times-in-Defer.new.lines.items in
    let inside = c.push_inner.new.lines.items in
    rw (c.in-Defer.is, deferred c.in-Defer.operator c.in-Defer.negated c.in-Defer.operand c.in-Defer.inner)
    (three_parts old opened inside c.push_times-in-Defer-2.new.lines.items (replicate (1 + count_first c.in-Defer.operand) line) (inner_lines (written_inner c.in-Defer.inner.items)) (replicate (1 + count_not c.in-Defer.negated) line)
    (c.in_ok-push_times-in-Defer.ensures ∙ ap (λ n. old ++ replicate (1 + n) line) c.count_first.ensures.is)
    (search rules)
    (c.in_ok-push_times-in-Defer-2.ensures ∙ ap (λ n. inside ++ replicate (1 + n) line) c.count_not-in-Defer.ensures.is))
