use Rattle.std.proofs.Common.{◌≡◌, ◌<◌, ◌∙◌, drop, sym, subst, arith, true, false, refl}
use Rattle.gateway.specs.poller.LinkRun.{is_reply}
use Rattle.service_requests.specs.Hearing.{Wait, Settles}
use Rattle.service_requests.proofs.Heard.{HeardSoFar, heard_more, settles_by_reply, settles_stale, meets_fault}
use Rattle.service_requests.proofs.pending_request.hear.Goals as goal

pub returns-then-is_reply-clause-hears : goal.returns-then-is_reply-clause-hears
returns-then-is_reply-clause-hears c =
    let inside = c.loop-may_drop.wait-inside in
    let wait : Wait = record { asked = record { id = inside.id; unit = inside.unit; request = inside.request }; may_drop = inside.may_drop } in
    let same : wait ≡ c.args.wait.now = rw c.loop-may_drop.invariant.1 c.wait.view_is in
    let feeds = rw c.in-Ok-Some.field-0-is at c.in-Ok-Some.ensures.feeds in
    let reply : is_reply wait.asked c.in-Ok-Some.frame ≡ true = sym c.is_reply.ensures ∙ c.if-is_reply.true in
    let P : Wait → Type 0 = λ w. HeardSoFar (record { held = c.args.framer.now; unfed = c.args.bytes.now }) w c.loop-may_drop.may_drop (record { held = c.loop-may_drop.framer; unfed = drop c.loop-may_drop.used c.args.bytes.now }) in
    let so_far = subst P (sym same) c.loop-may_drop.invariant.0 in
    let Q : Wait → Type 0 = λ w. Settles (record { held = c.args.framer.now; unfed = c.args.bytes.now }) w c.of_reply-outcome.result (record { held = c.next_frame.new.framer; unfed = drop c.next_frame.new.used c.args.bytes.now }) in
    (subst Q same (rw c.of_reply-outcome.ensures.said (settles_by_reply _ _ _ wait c.loop-may_drop.may_drop c.in-Ok-Some.frame c.loop-may_drop-test.true so_far feeds reply)), refl)

pub loop-may_drop-preserved : goal.loop-may_drop-preserved
loop-may_drop-preserved c =
    let inside = c.loop-may_drop.wait-inside in
    let wait : Wait = record { asked = record { id = inside.id; unit = inside.unit; request = inside.request }; may_drop = inside.may_drop } in
    let same : wait ≡ c.args.wait.now = rw c.loop-may_drop.invariant.1 c.wait.view_is in
    let feeds = rw c.in-Ok-Some.field-0-is at c.in-Ok-Some.ensures.feeds in
    let P : Wait → Type 0 = λ w. is_reply w.asked c.in-Ok-Some.frame ≡ false in
    let other = subst P same (sym c.is_reply.ensures ∙ c.if-is_reply.false) in
    (heard_more _ _ _ c.args.wait.now c.loop-may_drop.may_drop c.in-Ok-Some.frame c.loop-may_drop-test.true c.loop-may_drop.invariant.0 feeds other, c.loop-may_drop.invariant.1, c.next_frame.ensures.used)

pub returns-in-Err-clause-hears : goal.returns-in-Err-clause-hears
returns-in-Err-clause-hears c =
    (meets_fault _ _ _ c.args.wait.now c.loop-may_drop.may_drop c.in-Err.field-0 c.loop-may_drop-test.true c.loop-may_drop.invariant.0 c.in-Err.ensures.feeds, refl)

pub returns-clause-hears : goal.returns-clause-hears
returns-clause-hears c =
    let none : c.loop-may_drop.may_drop ≡ 0 = omega (arith, c.loop-may_drop-test.false) in
    let some : 0 < (c.args.wait.now).may_drop = rw (sym c.wait.view_is) c.wait.invariant in
    (settles_stale _ _ c.args.wait.now some (rw none at c.loop-may_drop.invariant.0), refl)
