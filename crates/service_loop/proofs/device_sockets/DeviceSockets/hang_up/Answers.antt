use Rattle.std.proofs.Common.{◌∙◌, ap, map}
use Rattle.std.proofs.Math.Seq.{map-set_same}
use Rattle.std.proofs.lemmas.List.{set-get_or}
use Rattle.service_loop.proofs.device_sockets.DeviceSockets.hang_up.Goals as goal
use Rattle.service_loop.proofs.device_sockets.DeviceSockets.hang_up.Goals.{then-wants_hang_up, else-wants_hang_up}

pub loop-number-preserved : goal.loop-number-preserved
loop-number-preserved c = elim c.if-wants_hang_up.branch [
  | then-wants_hang_up w ↦ ap (map (λ link. link.address)) w.link-items-is
      ∙ map-set_same (λ link. link.address) c.loop-number.link-items c.loop-number.number w.close.new.self c.link-item.result w.close.ensures ∙ c.loop-number.invariant
  | else-wants_hang_up w ↦ ap (map (λ link. link.address)) (w.link-items-is ∙ set-get_or c.loop-number.link-items c.loop-number.number c.link-item.result) ∙ c.loop-number.invariant
]
