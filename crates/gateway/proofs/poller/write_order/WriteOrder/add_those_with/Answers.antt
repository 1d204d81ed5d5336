use Rattle.std.proofs.Common.{rules, ◌≡◌, ℕ, true, false, List, [], ◌∷◌, ◌++◌, length, take, sym, ap, ◌∙◌}
use Rattle.std.proofs.lemmas.List.{append-nil, take_all}
use Rattle.gateway.specs.poller.Cycle.{going_with, most_outputs, outputs_with}
use Rattle.gateway.proofs.Turns.{going_at, take_beyond, take_more}
use Rattle.gateway.proofs.poller.write_order.WriteOrder.add_those_with.Goals as goal
use Rattle.gateway.proofs.poller.write_order.WriteOrder.add_those_with.Goals.{then-goes_with, else-goes_with}

pub returns-then-is_full : goal.returns-then-is_full
returns-then-is_full c =
    let full : length c.args.self.now.outputs.items ≡ most_outputs = search rules in
    take_beyond most_outputs c.args.self.now.outputs.items (outputs_with c.args.site.now c.args.leader) full

pub loop-i-init : goal.loop-i-init
loop-i-init c = sym (ap (take most_outputs) (append-nil c.args.self.now.outputs.items) ∙ take_all most_outputs c.args.self.now.outputs.items c.is_full.ensures.fits)

pub loop-i-preserved : goal.loop-i-preserved
loop-i-preserved c =
    let first : List ℕ = c.args.self.now.outputs.items in
    let tags = c.args.site.now.tags in
    let outs = c.args.site.now.outs in
    let i : ℕ = c.loop-i.i in
    let so_far = going_with tags c.args.leader 0 (take i outs) in
    let within = rw c.outs-i-end.ensures.value at c.loop-i-test.true in
    elim c.if-goes_with.branch [
      | then-goes_with w ↦
          ap (λ o. o.outputs.items) w.self-is ∙ w.add.ensures ∙ ap (λ l. take most_outputs (l ++ i ∷ [])) c.loop-i.invariant ∙ take_more most_outputs first so_far i
          ∙ ap (λ l. take most_outputs (first ++ l)) (sym (going_at tags c.args.leader outs i c.tag_at.result within c.tag_at.ensures true (sym c.goes_with.ensures ∙ w.if-goes_with.true)))
      | else-goes_with w ↦
          ap (λ o. o.outputs.items) w.self-is ∙ c.loop-i.invariant
          ∙ ap (λ l. take most_outputs (first ++ l)) (sym (going_at tags c.args.leader outs i c.tag_at.result within c.tag_at.ensures false (sym c.goes_with.ensures ∙ w.if-goes_with.false) ∙ append-nil so_far))
    ]
