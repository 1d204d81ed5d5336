use Rattle.std.proofs.Common.{rules, ◌≡◌, ◌∙◌, ap, sym, List, [], None}
use Rattle.il_reader.specs.declared.tree.Statement.{Statement}
use Rattle.il_assemble.specs.Kept.{address_in, seen}
use Rattle.il_assemble.proofs.Writing.{after_lines, after_lines_is, nothing_left}
use Rattle.il_assemble.proofs.emit.emit_lines.Goals as goal

pub returns : goal.returns
returns c =
    let g = seen c.args.scope in
    let A = address_in c.args.addresses.now in
    let end : c.write.new.code.items ≡ after_lines c.loop-rest.code.items A g c.loop-rest.counter c.loop-rest.running [] = search rules in
    end
    ∙ ap (λ (ss : List Statement). after_lines c.loop-rest.code.items A g c.loop-rest.counter c.loop-rest.running ss) (sym (nothing_left c.loop-rest.rest.now c.in_default.len_below))
    ∙ c.loop-rest.invariant.same
    ∙ after_lines_is c.args.code.now.items A g 0 0 None c.args.statements.now
