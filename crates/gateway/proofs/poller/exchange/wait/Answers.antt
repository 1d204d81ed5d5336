use Rattle.std.proofs.Common.{◌≡◌, ◌∙◌, ap, sym, arith, true, false}
use Rattle.std.proofs.KnownBytes.{Keeps-trans}
use Rattle.modbus_frame.specs.Held.{Held}
use Rattle.modbus_frame.proofs.Sending.{CountsBy-trans, FailsBy-then}
use Rattle.gateway.specs.poller.LinkRun.{is_reply, Asked}
use Rattle.gateway.proofs.Dropping.{dropped_more, gets_reply, gets_stale, misses, misses_end, failed_waiting}
use Rattle.gateway.proofs.poller.exchange.wait.Goals as goal

pub returns-then-is_reply-clause-waits : goal.returns-then-is_reply-clause-waits
returns-then-is_reply-clause-waits g c =
    let so_far = c.loop-may_drop.invariant.0 in
    let got = rw c.in-Ok-Some.field-0-is at (c.in-Ok-Some.ensures.reads so_far.fresh) in
    let asked : Asked = record { id = c.args.id; unit = c.args.unit; request = c.args.request.now } in
    let reply : is_reply asked c.in-Ok-Some.frame ≡ true = sym c.is_reply.ensures ∙ c.if-is_reply.true in
    rw c.of_reply.ensures.said (gets_reply _ _ _ asked c.loop-may_drop.may_drop _ c.in-Ok-Some.frame c.loop-may_drop-test.true so_far got.0 got.1 reply)

pub loop-may_drop-preserved : goal.loop-may_drop-preserved
loop-may_drop-preserved g c =
    let so_far = c.loop-may_drop.invariant.0 in
    let rest = c.loop-may_drop.invariant in
    let call = c.in-Ok-Some.ensures in
    let got = rw c.in-Ok-Some.field-0-is at (call.reads so_far.fresh) in
    let asked : Asked = record { id = c.args.id; unit = c.args.unit; request = c.args.request.now } in
    let other : is_reply asked c.in-Ok-Some.frame ≡ false = sym c.is_reply.ensures ∙ c.if-is_reply.false in (
      dropped_more _ _ _ asked c.loop-may_drop.may_drop _ _ c.in-Ok-Some.frame c.loop-may_drop-test.true so_far got.0 got.1 other (ap (λ (h : Held). h.fault) got.2),
      Keeps-trans _ _ _ rest.1 call.keeps,
      FailsBy-then 0 0 0 _ _ _ rest.2 (rw c.in-Ok-Some.field-0-is at call.failures),
      CountsBy-trans _ _ _ _ _ _ rest.3 call.calls (omega (arith, rest.4, call.within)),
      omega (arith, rest.4, call.within),
    )

pub returns-in-Ok-None-clause-waits : goal.returns-in-Ok-None-clause-waits
returns-in-Ok-None-clause-waits g c =
    let so_far = c.loop-may_drop.invariant.0 in
    let ended = rw c.in-Ok-None.field-0-is at (c.in-Ok-None.ensures.reads so_far.fresh) in
    misses_end _ _ c.next_frame.new.self _ _ c.loop-may_drop.may_drop _ c.loop-may_drop-test.true so_far ended

pub returns-in-Err-clause-waits : goal.returns-in-Err-clause-waits
returns-in-Err-clause-waits g c =
    let so_far = c.loop-may_drop.invariant.0 in
    misses _ _ c.next_frame.new.self _ _ c.loop-may_drop.may_drop _ c.in-Err.fault c.loop-may_drop-test.true so_far (c.in-Err.ensures.reads so_far.fresh)

pub returns-clause-waits : goal.returns-clause-waits
returns-clause-waits g c =
    let none : c.loop-may_drop.may_drop ≡ 0 = omega (arith, c.loop-may_drop-test.false) in
    gets_stale _ _ _ _ (rw none at c.loop-may_drop.invariant.0)

pub returns-in-Err-clause-failures : goal.returns-in-Err-clause-failures
returns-in-Err-clause-failures g c =
    failed_waiting (g.L.Link.failures c.args.link.now) (g.L.Link.failures c.loop-may_drop.link) (g.L.Link.failures c.next_frame.new.link) c.in-Err.fault c.next_frame.new.turns c.loop-may_drop.invariant.2 c.in-Err.ensures.failures
