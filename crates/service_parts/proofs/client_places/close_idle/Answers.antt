use Rattle.std.proofs.Common.{◌<◌, ◌∙◌, ap, sym, length, arith}
use Rattle.std.proofs.lemmas.List.{length-set}
use Rattle.service_parts.specs.Places.{closed_if_idle}
use Rattle.service_requests.proofs.Mapping.{mapped_more}
use Rattle.service_parts.proofs.client_places.close_idle.Goals as goal

pub loop-client-preserved : goal.loop-client-preserved
loop-client-preserved c =
    let so_far = c.loop-client.invariant in
    let f = closed_if_idle c.args.now c.args.idle in
    let within : c.loop-client.client-index < length c.args.places.now = omega (arith, c.loop-client-test.true, so_far.1, c.loop-client.auto.places, c.loop-client.auto.client-index-end) in (
      mapped_more f c.args.places.now c.loop-client.places c.loop-client.client-index c.client-item.result c.close_if_idle.new.self within so_far.0 c.client-item.is (c.close_if_idle.ensures ∙ ap f (sym c.client-item.is)),
      length-set c.loop-client.places _ _ ∙ so_far.1,
    )
