use Rattle.std.proofs.Common.{rules, FitsSigned, ◌≡◌, ◌∙◌, ◌+◌, ◌*◌, ◌<◌, ◌≤ℤ◌, pos, neg_ℤ, Some, length, drop, sym, subst, arith}
use Rattle.std.specs.Int.{w64, w128}
use Rattle.std.proofs.lemmas.Int.{to_z-of_z}
use Rattle.served_ranges.specs.Shown.{choice_over, least_choice, lowest_partial}
use Rattle.served_ranges.proofs.Ends.{choice_more, least_within}
use Rattle.served_ranges.proofs.totals.lowest_partial.Goals as goal

pub loop-part-preserved : goal.loop-part-preserved
loop-part-preserved c =
    let l = c.loop-part in
    let so_far = l.invariant in
    let tags = c.args.tags.now in
    let parts = c.args.parts.now in
    let next = l.part-index + 1 in
    let n = c.in-Some.low in
    let chosen = c.least_choice.result in
    let within : l.part-index < length parts = omega (arith, c.loop-part-test.true, l.auto.part-index-end) in
    let f : FitsSigned w64 n = search rules in
    let g : FitsSigned w128 chosen = search rules in
    let is : chosen ≡ least_choice l.least n = simp to_z-of_z at c.least_choice.ensures.value in
    let ends = least_within l.part-index n (simp to_z-of_z at c.least_choice.ensures.least) (simp to_z-of_z at c.least_choice.ensures.most) l.least chosen so_far.1 so_far.2 is in
    let more = so_far.0 ∙ choice_more least_choice (λ t. t.low) l.least n chosen tags parts l.part-index within (sym c.low_at.ensures ∙ c.in-Some.is) is in
    subst (λ z. (lowest_partial tags parts ≡ choice_over least_choice (λ t. t.low) (Some z) tags (drop next parts)) × (neg_ℤ (pos (next * 9223372036854775808)) ≤ℤ z) × (z ≤ℤ pos (next * 9223372036854775808)))
    (sym (to_z-of_z w128 chosen g)) (more, ends.0, ends.1)
