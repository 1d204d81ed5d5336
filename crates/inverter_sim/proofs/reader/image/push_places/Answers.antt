use Rattle.std.proofs.Common.{◌≡◌, ◌∙◌, ◌++◌, ◌+◌, ◌-◌, ap, sym, append_assoc, arith}
use Rattle.inverter_sim.proofs.Images.{places_next}
use Rattle.inverter_sim.proofs.reader.image.push_places.Goals as goal

pub loop-before-preserved : goal.loop-before-preserved
loop-before-preserved c =
    let before = c.loop-before.before in
    let step = places_next c.args.writable before (c.args.size - before) (omega (arith, c.loop-before-test.true)) in
    let e : c.args.size - before - 1 ≡ c.args.size - (before + 1) = omega arith in
    let f : c.args.size - before - 1 ≡ c.args.size - 1 - before = omega arith in
    rw c.in_ok-push.ensures.items
    (rw (← e) (rw (← f) (c.loop-before.invariant ∙ ap (λ l. c.loop-before.places.items ++ l) step ∙ sym (append_assoc c.loop-before.places.items _ _))))
