use Rattle.std.proofs.Common.{◌≡◌, ◌<◌, length, get_or, sym, ◌∙◌, is_some, ap, arith, false, inl, inr, refl, true, None}
use Rattle.indexmap.proofs.CallerLemmas.{insert_entry-new}
use Rattle.std.specs.List.{list_any}
use Rattle.model_defs.specs.Definition.{has_name}
use Rattle.model_defs.specs.Descriptions.{descriptions_view, description_view}
use Rattle.model_defs.specs.declared.fault.DefFault.TheVariants as fault
use Rattle.model_defs.proofs.Entries.{any_named, read_more, read_twice, none_from_test, view_more}
use Rattle.model_defs.proofs.Refused.{one_longer, one_more, point_here, told_of_fault}
use Rattle.model_defs.proofs.reader.read_points.Goals as goal

pub returns-then-is_some-clause-refused : goal.returns-then-is_some-clause-refused
returns-then-is_some-clause-refused c = λ _.
    let vs = c.args.trees.now.items in
    let within : c.loop-tree.tree-index < length vs = rw (← c.deref-tree-items.ensures.value) c.loop-tree-test.true in
    let is : c.tree-item.result ≡ get_or vs c.loop-tree.tree-index c.tree-item.result = rw (← c.deref-tree-items.ensures.value) c.tree-item.is in
    let old : list_any (has_name c.in_ok-name.name.now) (descriptions_view c.loop-tree.points.entries) ≡ true =
    sym (any_named c.in_ok-name.name.now c.loop-tree.points.entries) ∙ ap is_some (sym c.in_ok-insert.ensures.old) ∙ sym c.is_some.ensures ∙ c.if-is_some.true in
    c.loop-tree.invariant.0 ∙ read_twice (descriptions_view c.loop-tree.points.entries) vs c.loop-tree.tree-index c.tree-item.result (description_view c.in_ok-name.name.now c.in_ok-name.description) within is c.in_ok-name.ensures old

pub loop-tree-preserved : goal.loop-tree-preserved
loop-tree-preserved c =
    let vs = c.args.trees.now.items in
    let within : c.loop-tree.tree-index < length vs = rw (← c.deref-tree-items.ensures.value) c.loop-tree-test.true in
    let is : c.tree-item.result ≡ get_or vs c.loop-tree.tree-index c.tree-item.result = rw (← c.deref-tree-items.ensures.value) c.tree-item.is in
    let none : c.in_ok-insert.field-0 ≡ None = none_from_test _ (sym c.is_some.ensures ∙ c.if-is_some.false) in
    let new : list_any (has_name c.in_ok-name.name.now) (descriptions_view c.loop-tree.points.entries) ≡ false =
    sym (any_named c.in_ok-name.name.now c.loop-tree.points.entries) ∙ ap is_some (sym c.in_ok-insert.ensures.old ∙ none) in
    let longer = view_more c.loop-tree.points.entries c.insert.new.self.entries c.in_ok-name.name c.in_ok-name.description
    (c.in_ok-insert.ensures.entries ∙ insert_entry-new _ c.loop-tree.points c.in_ok-name.name c.in_ok-name.description (sym c.in_ok-insert.ensures.old ∙ none)) in
    let step = read_more (descriptions_view c.loop-tree.points.entries) vs c.loop-tree.tree-index c.tree-item.result (description_view c.in_ok-name.name.now c.in_ok-name.description) within is c.in_ok-name.ensures new in
    let seen = one_more (descriptions_view c.loop-tree.points.entries) vs c.loop-tree.tree-index c.tree-item.result (description_view c.in_ok-name.name.now c.in_ok-name.description) within is c.loop-tree.invariant.2 c.in_ok-name.ensures new in
    let last = c.in_ok-insert.ensures.entries ∙ insert_entry-new _ c.loop-tree.points c.in_ok-name.name c.in_ok-name.description (sym c.in_ok-insert.ensures.old ∙ none) in
    (rw longer (c.loop-tree.invariant.0 ∙ step.0), rw longer (c.loop-tree.invariant.1 ∙ step.1), rw longer seen, one_longer c.loop-tree.points.entries c.insert.new.self.entries _ c.loop-tree.tree-index last c.loop-tree.invariant.3)

pub returns-in_err-name-clause-placed : goal.returns-in_err-name-clause-placed
returns-in_err-name-clause-placed c =
    let l = c.loop-tree in
    let vs = c.args.trees.now.items in
    let within : l.tree-index < length vs = rw (← c.deref-tree-items.ensures.value) c.loop-tree-test.true in
    let is : c.tree-item.result ≡ get_or vs l.tree-index c.tree-item.result = rw (← c.deref-tree-items.ensures.value) c.tree-item.is in
    let at : c.len.result ≡ l.tree-index = omega (arith, c.len.ensures.len, l.invariant.3) in
    told_of_fault c.from_residual.result c.in_err-name.field-0.0 _ c.from_residual.ensures.1 (λ real.
    point_here (descriptions_view l.points.entries) vs l.tree-index c.len.result c.tree-item.result c.in_err-name.field-0.0 within is at l.invariant.2 (inl c.in_err-name.ensures))

pub returns-then-is_some-clause-placed : goal.returns-then-is_some-clause-placed
returns-then-is_some-clause-placed c = λ real.
    let l = c.loop-tree in
    let vs = c.args.trees.now.items in
    let within : l.tree-index < length vs = rw (← c.deref-tree-items.ensures.value) c.loop-tree-test.true in
    let is : c.tree-item.result ≡ get_or vs l.tree-index c.tree-item.result = rw (← c.deref-tree-items.ensures.value) c.tree-item.is in
    let at : c.len.result ≡ l.tree-index = omega (arith, c.len.ensures.len, l.invariant.3) in
    let old : list_any (has_name c.in_ok-name.name.now) (descriptions_view l.points.entries) ≡ true =
    sym (any_named c.in_ok-name.name.now l.points.entries) ∙ ap is_some (sym c.in_ok-insert.ensures.old) ∙ sym c.is_some.ensures ∙ c.if-is_some.true in
    point_here (descriptions_view l.points.entries) vs l.tree-index c.len.result c.tree-item.result fault.DuplicateName within is at l.invariant.2
    (inr (description_view c.in_ok-name.name.now c.in_ok-name.description, c.in_ok-name.ensures, old, refl))
