use Rattle.std.proofs.Common.{◌≡◌, ◌∙◌, ◌+◌, ◌++◌, ◌∷◌, [], length, length-append, ap, arith}
use Rattle.verifier.specs.Passing.{opening}
use Rattle.verifier.proofs.Passing.{one_open}
use Rattle.verifier.proofs.pass.opened.Goals as goal

pub loop-n-preserved : goal.loop-n-preserved
loop-n-preserved g c =
    let stands = g.F.FactDomain.stands in
    let context = c.args.context.now in
    let old = c.loop-n.pending.items in
    let slot = c.in_ok-open.field-0 in
    let items : c.push.new.self.items ≡ old ++ slot ∷ [] = c.in_ok-push.ensures.items in
    let long : length c.push.new.self.items ≡ length old + 1 = ap length items ∙ length-append old (slot ∷ []) in
    let more = one_open stands context old slot c.loop-n.invariant.unmet (c.in_ok-open.ensures ∙ ap (opening context) c.loop-n.invariant.counted) in
    record {
      within = omega (arith, c.loop-n-test.true, c.size.ensures);
      counted = omega (arith, long, c.loop-n.invariant.counted);
      unmet = rw items more;
    }
