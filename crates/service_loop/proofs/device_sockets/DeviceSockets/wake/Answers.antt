use Rattle.std.proofs.Common.{◌∙◌, ap}
use Rattle.std.proofs.Math.Seq.{map-set_same}
use Rattle.service_loop.proofs.device_sockets.DeviceSockets.wake.Goals as goal

pub returns-in-Some : goal.returns-in-Some
returns-in-Some c =
    map-set_same (λ link. link.address) c.args.self.now.links.items c.args.number c.wake.new.self c.in-Some.link.now (c.wake.ensures ∙ ap (λ link. link.address) c.in-Some.ensures.value)
