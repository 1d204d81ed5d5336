use Rattle.std.proofs.Common.{rules, FitsSigned, ◌≡◌, ◌∙◌, ◌<◌, ◌+ℤ◌, length, sym, to_z, arith}
use Rattle.std.specs.Int.{w64, w128}
use Rattle.std.proofs.lemmas.Int.{to_z-of_z}
use Rattle.served_ranges.proofs.Ends.{end_more, within_more}
use Rattle.served_ranges.proofs.totals.highest_total.Goals as goal

pub loop-part-preserved : goal.loop-part-preserved
loop-part-preserved c =
    let so_far = c.loop-part.invariant in
    let within : c.loop-part.part-index < length c.args.parts.now = omega (arith, c.loop-part-test.true, c.loop-part.auto.part-index-end) in
    let t = to_z w128 c.loop-part.total-bits in
    let f : FitsSigned w64 c.in-Some.high = search rules in
    let g : FitsSigned w128 c.added-total.result = search rules in
    let sum : c.added-total.result ≡ (t +ℤ c.in-Some.high) = simp to_z-of_z at c.added-total.ensures.value in
    let ends = within_more t c.in-Some.high c.added-total.result c.loop-part.part-index so_far.1 so_far.2 (simp to_z-of_z at c.added-total.ensures.least) (simp to_z-of_z at c.added-total.ensures.most) sum in
    rw (to_z-of_z w128 c.added-total.result g)
    (so_far.0 ∙ end_more (λ x. x.high) t c.in-Some.high c.added-total.result c.args.tags.now c.args.parts.now c.loop-part.part-index within (sym c.high_at.ensures ∙ c.in-Some.is) sum, ends.0, ends.1)
