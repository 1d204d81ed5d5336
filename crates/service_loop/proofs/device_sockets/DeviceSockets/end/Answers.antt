use Rattle.std.proofs.Common.{◌∙◌}
use Rattle.std.proofs.Math.Seq.{map-set_same}
use Rattle.service_loop.proofs.device_sockets.DeviceSockets.end.Goals as goal

pub loop-link-preserved : goal.loop-link-preserved
loop-link-preserved c =
    map-set_same (λ link. link.address) c.loop-link.link-items c.loop-link.link-index c.end.new.self c.link-item.result c.end.ensures ∙ c.loop-link.invariant
