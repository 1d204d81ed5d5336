use Rattle.std.proofs.Common.{arith, length-append}
use Rattle.service_requests.proofs.Turning.{serves_more}
use Rattle.service_requests.proofs.session.Session.turn.Goals as goal

pub loop-i-preserved : goal.loop-i-preserved
loop-i-preserved g c =
    let l = c.loop-i in
    let cut = c.split_at_mut.ensures in
    let step = c.step-next.ensures in
    record {
      used = omega (arith, l.invariant.used, step.used, c.split_at.ensures.back_len);
      put = omega (arith, l.invariant.put, step.put, cut.front_len, cut.back_len, c.step-next.auto.out, length-append c.split_at_mut.result.0.now c.step-next.new.out);
      serves = serves_more g.R.Responder.answers l.frames c.step-next.result.frames _ _ _ _ _ _ c.args.piece.now _ l.out _ _ l.used l.put c.step-next.result.used c.step-next.result.put l.invariant.serves step.serves c.split_at.ensures.back cut.front cut.front_len;
      takes = λ free some. omega (arith, l.invariant.takes free some);
      empties = λ room none. l.invariant.empties room (omega (arith, none));
      rests = λ room none. step.rests (omega (arith, room, none, cut.front_len, cut.back_len)) (omega (arith, none));
      frames = omega (arith, l.invariant.frames, step.frames);
    }
