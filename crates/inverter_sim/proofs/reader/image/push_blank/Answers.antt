use Rattle.std.proofs.Common.{◌∙◌, ◌++◌, ◌∷◌, [], ◌-◌, ap, sym, append_assoc, arith}
use Rattle.inverter_sim.specs.Image.{first, behind, padded}
use Rattle.inverter_sim.proofs.Images.{padded_next}
use Rattle.inverter_sim.proofs.reader.image.push_blank.Goals as goal

pub loop-left-preserved : goal.loop-left-preserved
loop-left-preserved c =
    let step = padded_next c.loop-left.left c.loop-left.rest.now (omega (arith, c.loop-left-test.true)) in
    rw (c.in_ok-push.ensures.items, c.first.ensures, c.behind-rest.ensures)
    (c.loop-left.invariant ∙ ap (λ l. c.loop-left.registers.items ++ l) step ∙ sym (append_assoc c.loop-left.registers.items (first c.loop-left.rest.now ∷ []) (padded (c.loop-left.left - 1) (behind c.loop-left.rest.now))))
