use Rattle.modbus_frame.specs.Serving.{copies}
use Rattle.modbus_frame.proofs.Copies.{sends_both, sends_less}
use Rattle.modbus_frame.proofs.reply.FrameReply.send.Goals as goal

pub returns-in-Ok : goal.returns-in-Ok
returns-in-Ok g c =
    let r = c.self.inside in
    let call = c.send.ensures in
    rw (← c.self.view_is)
    (sends_both _ _ _ c.send.result (copies r.times r.first.items) r.last.items _ _ _ (rw c.deref.ensures.0 at c.in-Ok.ensures)
    (record {
      sends = rw c.deref-in-Ok.ensures.0 at call.sends;
      keeps = call.keeps;
      failed = call.failures;
      called = call.calls;
      within = call.within;
      used = rw c.deref-in-Ok.ensures.0 at call.used;
    }))

pub returns-in-Err : goal.returns-in-Err
returns-in-Err g c =
    let r = c.self.inside in
    rw (← c.self.view_is) (sends_less _ _ _ (copies r.times r.first.items) r.last.items _ _ (rw c.deref.ensures.0 at c.in-Err.ensures))
