use Rattle.std.proofs.Common.{◌≡◌, ◌∙◌, ◌+◌, ◌-◌, arith, drop, length-drop}
use Rattle.std.proofs.lemmas.Grind.{common_steps}
use Rattle.verifier.proofs.Lengths.{those_up_to}
use Rattle.verifier.proofs.budget.path_lengths.Goals as goal

pub length_if-length-requires : goal.length_if-length-requires
length_if-length-requires c =
    let n = c.loop-n.n in
    let p : n - 1 + 1 ≡ n = omega (arith, c.loop-n-test.true) in
    those_up_to c.args.context.now.listing n 65535 (drop n c.args.reached.now) (drop n c.args.context.now.listing) c.split_at.result.1.now
    (c.split_at.ensures.back ∙ rw (c.deref.ensures.value, p) c.loop-n.invariant.done)
    (omega (arith, length-drop n c.args.context.now.listing, c.requires.few))

pub loop-n-preserved : goal.loop-n-preserved
loop-n-preserved c =
    let value = rw c.instructions-listing.ensures at c.length_if-length.ensures in
    grind (arith, common_steps, value)
