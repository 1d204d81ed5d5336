use Rattle.std.proofs.Common.{arith}
use Rattle.modbus_frame.proofs.Copies.{copies_stopped, copies_go_on}
use Rattle.modbus_frame.proofs.reply.send_copies.Goals as goal

pub returns-in-Err : goal.returns-in-Err
returns-in-Err g c =
    let so_far = c.loop-left.invariant in
    let call = c.in-Err.ensures in
    copies_stopped _ _ _ _ c.args.bytes.now c.args.count c.loop-left.left _ _ _ so_far.0 so_far.1 (omega (arith, c.loop-left-test.true))
    (record {
      sends = call.sends;
      keeps = call.keeps;
      failed = call.failures;
      called = call.calls;
      within = call.within;
      used = tt;
    })

pub loop-left-preserved : goal.loop-left-preserved
loop-left-preserved g c =
    let so_far = c.loop-left.invariant in
    let call = c.in-Ok.ensures in (
      copies_go_on _ _ _ c.args.bytes.now c.args.count c.loop-left.left _ _ _ so_far.0 so_far.1 (omega (arith, c.loop-left-test.true))
          (record {
            sends = call.sends;
            keeps = call.keeps;
            failed = call.failures;
            called = call.calls;
            within = call.within;
            used = call.used;
          }),
      omega (arith, so_far.1),
    )
