use Rattle.std.proofs.Common.{arith}
use Rattle.gateway.proofs.Found.{finds_more, stops_finding}
use Rattle.gateway.proofs.Reading.{turned_both}
use Rattle.gateway.proofs.poller.line.Line.find.Goals as goal

pub returns-in-Err-clause-stopped : goal.returns-in-Err-clause-stopped
returns-in-Err-clause-stopped g c =
    stops_finding c.args.devices.now c.loop-device.device-index c.device-item.result _ _ _ c.loop-device.maps.items c.in-Err.fault c.loop-device-test.true c.device-item.is c.loop-device.invariant.0 c.in-Err.ensures.stopped

pub loop-device-preserved : goal.loop-device-preserved
loop-device-preserved g c =
    let so_far = c.loop-device.invariant in
    let one = c.in-Ok.ensures.found in (
      rw c.push_reserved.ensures.items
          (finds_more c.args.devices.now c.loop-device.device-index c.device-item.result _ _ _ c.loop-device.maps.items c.in-Ok.map c.loop-device-test.true c.device-item.is so_far.0 one),
      turned_both _ _ _ so_far.1 c.in-Ok.ensures.turned,
      (one.2).fault,
      omega (arith, c.push_reserved.ensures.len, so_far.3),
      omega (arith, c.push_reserved.ensures.capacity, so_far.4),
    )
