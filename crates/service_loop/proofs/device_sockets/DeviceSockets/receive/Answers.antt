use Rattle.std.proofs.Common.{◌∙◌}
use Rattle.std.proofs.Math.Seq.{map-set_same}
use Rattle.service_loop.proofs.device_sockets.DeviceSockets.receive.Goals as goal

pub loop-number-preserved : goal.loop-number-preserved
loop-number-preserved c =
    map-set_same (λ link. link.address) c.loop-number.link-items c.loop-number.number c.receive.new.self c.link-item.result c.receive.ensures ∙ c.loop-number.invariant
