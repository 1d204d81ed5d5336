use Rattle.std.proofs.Common.{◌∙◌, ◌<◌, length, sym, arith}
use Rattle.gateway.proofs.Totals.{joined_more, joined_within}
use Rattle.gateway.proofs.served.amount.joined_total.Goals as goal

pub loop-part-preserved : goal.loop-part-preserved
loop-part-preserved c =
    let l = c.loop-part in
    let so_far = l.invariant in
    let next = c.joined-total in
    let within : l.part-index < length c.args.parts.now = omega (arith, c.loop-part-test.true, l.auto.part-index-end) in
    let ends = joined_within l.total c.value_at.result next.result l.part-index so_far.1 so_far.2 next.ensures.least next.ensures.most next.ensures.value in
    (so_far.0 ∙ joined_more l.total c.value_at.result next.result c.args.readings.now c.args.parts.now l.part-index within (sym c.value_at.ensures) next.ensures.value, ends.0, ends.1)
