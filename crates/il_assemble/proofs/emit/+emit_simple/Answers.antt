use Rattle.std.proofs.Common.{rules, ◌≡◌, ◌∙◌, ap, sym, drop, List, []}
use Rattle.il_reader.specs.declared.tree.InnerLine.{InnerLine}
use Rattle.il_assemble.specs.Kept.{seen}
use Rattle.il_assemble.specs.Typing.{or_dint, type_inside, whole_type}
use Rattle.il_assemble.specs.Elaboration.{first_source, resolved_inner}
use Rattle.il_assemble.specs.Written.{written_inner}
use Rattle.il_assemble.proofs.Forms.{deferred}
use Rattle.il_assemble.proofs.Writing.{after_inner, after_inner_is, deferred_bytes, drop_all}
use Rattle.il_assemble.proofs.emit.+emit_simple.Goals as goal

pub emit_inner-returns : goal.emit_inner-returns
emit_inner-returns t c =
    let g = seen c.args.scope in
    let gone : drop c.loop-line.line-index c.args.inner.now ≡ [] = drop_all c.args.inner.now c.loop-line.line-index c.loop-line-test.false in
    ap (λ (ls : List InnerLine). after_inner c.loop-line.code.items g c.loop-line.before c.loop-line.unless_next (written_inner ls)) (sym gone)
    ∙ c.loop-line.invariant.same
    ∙ after_inner_is c.args.code.now.items g c.args.running c.args.otherwise (written_inner c.args.inner.now)

pub emit_simple-returns-in_ok-write-in-Defer-2 : goal.emit_simple-returns-in_ok-write-in-Defer-2
emit_simple-returns-in_ok-write-in-Defer-2 t c =
    let g = seen c.args.scope in
    let first = first_source g (or_dint c.args.running) c.in-Defer.operand in
    let inner = resolved_inner g (type_inside g c.args.running c.in-Defer.operand) (whole_type c.args.running) (written_inner c.in-Defer.inner.items) in
    rw (c.in-Defer.is, deferred c.in-Defer.operator c.in-Defer.negated c.in-Defer.operand c.in-Defer.inner)
    (deferred_bytes c.in-Defer.operator c.in-Defer.negated first inner c.args.code.now.items c.write-in-Defer.new.code.items c.emit_first.new.code.items c.emit_inner.new.code.items c.emit_not-in-Defer.new.code.items c.write-in-Defer-2.new.code.items
    (search rules) (search rules) (search rules) (search rules) (search rules))
