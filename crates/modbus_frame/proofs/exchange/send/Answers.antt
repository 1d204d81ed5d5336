use Rattle.std.proofs.Common.{◌++◌, take, arith, sym, ◌∙◌, ap, append_assoc, take-append-drop}
use Rattle.std.proofs.lemmas.Bool.Decides.{nat_tests}
use Rattle.std.proofs.KnownBytes.{Appends-trans, Appends-kept, Keeps-trans}
use Rattle.modbus_frame.proofs.Sending.{CountsBy-trans, FailsBy-then, front_sent}
use Rattle.modbus_frame.proofs.exchange.send.Goals as goal

pub returns-then-turns-eq0-clause-sends : goal.returns-then-turns-eq0-clause-sends
returns-then-turns-eq0-clause-sends g c =
    let so_far = c.loop-rest.invariant in
    front_sent _ _ _ so_far.front _ so_far.split (grind (arith, nat_tests, c.is_empty.ensures, c.loop-rest-test.true)) so_far.sends

pub loop-rest-preserved : goal.loop-rest-preserved
loop-rest-preserved g c =
    let so_far = c.loop-rest.invariant in
    let call = c.in-Ok.ensures in
    record {
      front = so_far.front ++ take c.in-Ok.n c.loop-rest.rest.now;
      split = so_far.split ∙ ap (λ l. so_far.front ++ l) (sym (take-append-drop c.in-Ok.n c.loop-rest.rest.now)) ∙ sym (append_assoc so_far.front _ _) ∙ ap (λ l. (so_far.front ++ take c.in-Ok.n c.loop-rest.rest.now) ++ l) (sym c.split_at.ensures.back);
      sends = Appends-trans _ _ _ _ _ so_far.sends call.writes;
      keeps = Keeps-trans _ _ _ so_far.keeps call.keeps;
      failures = FailsBy-then 0 0 0 _ _ _ so_far.failures call.failures;
      calls = CountsBy-trans _ 1 _ _ _ _ so_far.calls call.calls (omega (arith, so_far.within));
      within = omega (arith, so_far.within);
      used = λ _. omega (arith, so_far.within);
    }

pub returns-in-Err-clause-sends : goal.returns-in-Err-clause-sends
returns-in-Err-clause-sends g c =
    let so_far = c.loop-rest.invariant in
    front_sent _ _ _ so_far.front _ so_far.split (grind (arith, nat_tests, c.is_empty.ensures, c.loop-rest-test.true)) (Appends-kept _ _ _ _ so_far.sends c.in-Err.ensures.writes)
