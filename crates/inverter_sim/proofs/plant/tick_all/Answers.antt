use Rattle.std.proofs.Common.{◌<◌, ◌∙◌, ap, sym, length, arith}
use Rattle.std.proofs.lemmas.List.{length-set}
use Rattle.inverter_sim.specs.Tick.{ticked}
use Rattle.inverter_sim.proofs.Lists.{mapped_more}
use Rattle.inverter_sim.proofs.plant.tick_all.Goals as goal

pub loop-device-preserved : goal.loop-device-preserved
loop-device-preserved c =
    let so_far = c.loop-device.invariant in
    let within : c.loop-device.device-index < length c.args.devices.now = omega (arith, c.loop-device-test.true, so_far.1, c.loop-device.auto.devices, c.loop-device.auto.device-index-end) in (
      mapped_more ticked c.args.devices.now c.loop-device.devices c.loop-device.device-index c.device-item.result c.tick.new.self within so_far.0 c.device-item.is (c.tick.ensures ∙ ap ticked (sym c.device-item.is)),
      length-set c.loop-device.devices _ _ ∙ so_far.1,
    )
