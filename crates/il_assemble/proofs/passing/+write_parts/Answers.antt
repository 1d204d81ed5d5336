use Rattle.std.proofs.Common.{rules, ◌≡◌, ◌+◌, ◌∙◌, ap, sym, subst, drop, length, List, [], ◌∷◌, ◌++◌, Result, Ok, Err, ℕ}
use Rattle.std.proofs.lemmas.List.{drop_more}
use Rattle.il_reader.specs.declared.tree.InnerLine.{InnerLine}
use Rattle.scan_code.specs.declared.op.Op.TheVariants as does
use Rattle.il_assemble.specs.Code.{not_code, start_code}
use Rattle.il_assemble.specs.Elaboration.{Part, first_source, inner_parts, parts_of, reached}
use Rattle.il_assemble.specs.Kept.{Reaches, seen}
use Rattle.il_assemble.specs.Typing.{loaded_inner_type, or_dint, type_inside, whole_type}
use Rattle.il_assemble.specs.Written.{Inner, written, written_inner}
use Rattle.il_assemble.proofs.Forms.{deferred}
use Rattle.il_assemble.proofs.Parts.{closing_ends, inside_passes, line_fits, line_passes, plain_ends}
use Rattle.il_assemble.proofs.passing.+write_parts.Goals as goal

pub write_inner-returns-in-Err : goal.write_inner-returns-in-Err
write_inner-returns-in-Err t c =
    let g = seen c.args.scope in
    let x : InnerLine = c.line-item.result in
    let tail : List InnerLine = drop (c.loop-line.line-index + 1) c.args.inner.now in
    let split : drop c.loop-line.line-index c.args.inner.now ≡ x ∷ tail = drop_more c.args.inner.now c.loop-line.line-index x c.loop-line-test.true ∙ ap (λ (y : InnerLine). y ∷ tail) (sym c.line-item.is) in
    let behind : c.behind_first-rest.result.now ≡ tail = c.behind_first-rest.ensures ∙ ap (λ (ls : List InnerLine). drop 1 ls) (c.loop-line.invariant.behind ∙ split) in
    let loaded : c.loaded_inner_type-loaded.result ≡ loaded_inner_type g c.loop-line.unless_next (written_inner tail) = c.loaded_inner_type-loaded.ensures ∙ ap (λ (ls : List InnerLine). loaded_inner_type g c.loop-line.unless_next (written_inner ls)) behind in
    sym c.loop-line.invariant.same
    ∙ ap (λ (ls : List InnerLine). reached (length c.loop-line.code.items) (inner_parts g c.loop-line.before c.loop-line.unless_next (written_inner ls))) split
    ∙ line_passes g c.loop-line.before c.loop-line.unless_next c.loaded_inner_type-loaded.result (length c.loop-line.code.items) c.in-Err.passing x.line (written x.simple) (written_inner tail) loaded
    (subst (λ (r : Result (Unit {0}) ℕ). Reaches (length c.loop-line.code.items) (parts_of g x.line c.loop-line.before c.loaded_inner_type-loaded.result (written x.simple)) r (length c.write_parts.new.code.items)) c.in-Err.is c.in_ok-passing.ensures)

pub write_inner-loop-line-preserved : goal.write_inner-loop-line-preserved
write_inner-loop-line-preserved t c =
    let g = seen c.args.scope in
    let x : InnerLine = c.line-item.result in
    let tail : List InnerLine = drop (c.loop-line.line-index + 1) c.args.inner.now in
    let split : drop c.loop-line.line-index c.args.inner.now ≡ x ∷ tail = drop_more c.args.inner.now c.loop-line.line-index x c.loop-line-test.true ∙ ap (λ (y : InnerLine). y ∷ tail) (sym c.line-item.is) in
    let behind : c.behind_first-rest.result.now ≡ tail = c.behind_first-rest.ensures ∙ ap (λ (ls : List InnerLine). drop 1 ls) (c.loop-line.invariant.behind ∙ split) in
    let loaded : c.loaded_inner_type-loaded.result ≡ loaded_inner_type g c.loop-line.unless_next (written_inner tail) = c.loaded_inner_type-loaded.ensures ∙ ap (λ (ls : List InnerLine). loaded_inner_type g c.loop-line.unless_next (written_inner ls)) behind in
    let parts = parts_of g x.line c.loop-line.before c.loaded_inner_type-loaded.result (written x.simple) in
    let fits : reached (length c.loop-line.code.items) parts ≡ Ok (length c.write_parts.new.code.items) =
    subst (λ (r : Result (Unit {0}) ℕ). Reaches (length c.loop-line.code.items) parts r (length c.write_parts.new.code.items)) c.in_default.is c.in_ok-passing.ensures in
    record {
      behind = behind;
      same = sym (
          ap (λ (ls : List InnerLine). reached (length c.loop-line.code.items) (inner_parts g c.loop-line.before c.loop-line.unless_next (written_inner ls))) split
          ∙ line_fits g c.loop-line.before c.type_after-before.result c.loop-line.unless_next c.loaded_inner_type-loaded.result (length c.loop-line.code.items) (length c.write_parts.new.code.items) x.line (written x.simple) (written_inner tail) loaded c.type_after-before.ensures fits)
          ∙ c.loop-line.invariant.same;
    }

pub write_parts-returns-in-Err-2 : goal.write_parts-returns-in-Err-2
write_parts-returns-in-Err-2 t c =
    let g = seen c.args.scope in
    let first = c.in-Defer.operand in
    let opening : List Part = record { line = c.args.line; code = does.Push ∷ start_code (first_source g (or_dint c.args.running) first) } ∷ [] in
    let inside : Inner = written_inner c.in-Defer.inner.items in
    let opened : reached (length c.args.code.now.items) opening ≡ Ok (length c.write_opening.new.code.items) = search rules in
    let passes : reached (length c.write_opening.new.code.items) (inner_parts g (type_inside g c.args.running first) (whole_type c.args.running) inside) ≡ Err c.in-Err-2.passing = search rules in
    rw (c.in-Defer.is, deferred c.in-Defer.operator c.in-Defer.negated first c.in-Defer.inner)
    (inside_passes g c.args.line c.args.running c.args.loaded c.in-Defer.operator c.in-Defer.negated first inside (length c.args.code.now.items) (length c.write_opening.new.code.items) c.in-Err-2.passing opened passes)

pub write_parts-returns-in_ok-closing-in-Defer : goal.write_parts-returns-in_ok-closing-in-Defer
write_parts-returns-in_ok-closing-in-Defer t c =
    let g = seen c.args.scope in
    let first = c.in-Defer.operand in
    let opening : List Part = record { line = c.args.line; code = does.Push ∷ start_code (first_source g (or_dint c.args.running) first) } ∷ [] in
    let closing : List Part = record { line = c.args.line; code = not_code c.in-Defer.negated ++ does.Apply c.in-Defer.operator ∷ [] } ∷ [] in
    let inside : Inner = written_inner c.in-Defer.inner.items in
    let opened : reached (length c.args.code.now.items) opening ≡ Ok (length c.write_opening.new.code.items) = search rules in
    let fits : reached (length c.write_opening.new.code.items) (inner_parts g (type_inside g c.args.running first) (whole_type c.args.running) inside) ≡ Ok (length c.write_inner.new.code.items) = search rules in
    let ends : Reaches (length c.write_inner.new.code.items) closing c.in_ok-closing-in-Defer.closing (length c.write_closing.new.code.items) = search rules in
    rw (c.in-Defer.is, deferred c.in-Defer.operator c.in-Defer.negated first c.in-Defer.inner)
    (closing_ends g c.args.line c.args.running c.args.loaded c.in-Defer.operator c.in-Defer.negated first inside (length c.args.code.now.items) (length c.write_opening.new.code.items) (length c.write_inner.new.code.items) (length c.write_closing.new.code.items) c.in_ok-closing-in-Defer.closing opened fits ends)

pub write_parts-returns-in_ok-emit_simple-in_default : goal.write_parts-returns-in_ok-emit_simple-in_default
write_parts-returns-in_ok-emit_simple-in_default t c =
    plain_ends (seen c.args.scope) c.args.line c.args.running c.args.loaded c.args.simple.now c.in_default.not-Defer c.args.code.now.items c.emit_simple.new.code.items c.within.result
    (search rules) (search rules)
