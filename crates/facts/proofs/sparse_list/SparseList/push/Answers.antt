use Rattle.std.proofs.Common.{◌≡◌, ◌∙◌, ap, sym, arith, length, ◌+◌, Some, None}
use Rattle.facts.specs.Places.{places}
use Rattle.facts.proofs.Spread.{end_is_short, length_next, push_empty, push_kept}
use Rattle.facts.proofs.sparse_list.SparseList.push.Goals as goal

pub overflow_add-self : goal.overflow_add-self
overflow_add-self g c =
    let short = end_is_short c.self.inside.kept.items c.self.inside.empty_at_end in
    let counted : c.self.inside.count ≡ length (places c.self.inside.kept.items c.self.inside.empty_at_end) = c.self.invariant in
    let fits = c.in-Some.ensures.0 in
    omega (arith, short, counted, fits)

pub invariant_of-self : goal.invariant_of-self
invariant_of-self g c =
    c.in-Some.ensures.1 ∙ sym (ap length (push_empty c.self.inside.kept.items c.self.inside.empty_at_end) ∙ length_next (places c.self.inside.kept.items c.self.inside.empty_at_end) None ∙ ap (λ k. k + 1) (sym c.self.invariant))

pub invariant_of-self-in-Some-place : goal.invariant_of-self-in-Some-place
invariant_of-self-in-Some-place g c =
    c.in-Some.ensures.1 ∙ sym (ap (λ ks. length (places ks 0)) c.in_ok-push-in-Some-place.ensures.items ∙ ap length (push_kept c.self.inside.kept.items c.self.inside.empty_at_end c.in-Some-place.item) ∙ length_next (places c.self.inside.kept.items c.self.inside.empty_at_end) (Some c.in-Some-place.item) ∙ ap (λ k. k + 1) (sym c.self.invariant))

pub returns-in-None-clause-ok : goal.returns-in-None-clause-ok
returns-in-None-clause-ok g c = rw (← c.self.view_is, c.in-None.is) (push_empty c.self.inside.kept.items c.self.inside.empty_at_end)

pub returns-in_ok-push-in-Some-place-clause-ok : goal.returns-in_ok-push-in-Some-place-clause-ok
returns-in_ok-push-in-Some-place-clause-ok g c = rw (← c.self.view_is, c.in-Some-place.is, c.in_ok-push-in-Some-place.ensures.items) (push_kept c.self.inside.kept.items c.self.inside.empty_at_end c.in-Some-place.item)
