use Rattle.std.proofs.Common.{◌<◌, ◌∙◌, ap, sym, length, arith}
use Rattle.std.proofs.lemmas.List.{length-set}
use Rattle.inverter_sim.specs.Tick.{metered, metered_as}
use Rattle.inverter_sim.proofs.Lists.{mapped_more, stands_there}
use Rattle.inverter_sim.proofs.Meters.{behind_same}
use Rattle.inverter_sim.proofs.metering.meter_all.Goals as goal

pub loop-index-preserved : goal.loop-index-preserved
loop-index-preserved c =
    let l = c.loop-index in
    let before = c.args.devices.now in
    let d = c.index-devices-index.result in
    let is = c.index-devices-index.is in
    let within : l.index < length before = omega (arith, c.loop-index-test.true, l.invariant.1, l.auto.devices, l.auto.index-end) in
    let there = stands_there l.devices l.index d (omega (arith, within, l.invariant.1)) is in
    let measured = c.produced_at-produced.ensures.watts d there ∙ behind_same d.works before l.devices l.index l.invariant.0 in
    let shown = c.meter.ensures ∙ ap (λ x. metered_as x.works c.produced_at-produced.result x) (sym is) ∙ ap (λ n. metered_as d.works n d) measured in (
      mapped_more (metered before) before l.devices l.index d c.meter.new.self within l.invariant.0 is shown,
      length-set l.devices _ _ ∙ l.invariant.1,
    )
