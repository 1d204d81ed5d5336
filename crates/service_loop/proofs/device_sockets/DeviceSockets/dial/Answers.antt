use Rattle.std.proofs.Common.{◌∙◌, ap, map}
use Rattle.std.proofs.Math.Seq.{map-set_same}
use Rattle.service_loop.proofs.device_sockets.DeviceSockets.dial.Goals as goal
use Rattle.service_loop.proofs.device_sockets.DeviceSockets.dial.Goals.{then-wants_dial, else-wants_dial}

pub loop-number-preserved : goal.loop-number-preserved
loop-number-preserved g c = elim c.if-wants_dial.branch [
  | then-wants_dial w ↦ ap (map (λ link. link.address)) w.link-items-is
      ∙ map-set_same (λ link. link.address) c.loop-number.link-items c.loop-number.number w.dial.new.self c.link-item.result w.dial.ensures ∙ c.loop-number.invariant
  | else-wants_dial w ↦ ap (map (λ link. link.address)) w.link-items-is
      ∙ map-set_same (λ link. link.address) c.loop-number.link-items c.loop-number.number w.go_on.new.self c.link-item.result w.go_on.ensures ∙ c.loop-number.invariant
]
