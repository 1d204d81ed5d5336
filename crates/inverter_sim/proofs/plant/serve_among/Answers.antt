use Rattle.std.proofs.Common.{◌≡◌, ◌==◌, ◌<◌, true, ◌∙◌, ap, sym, length, arith}
use Rattle.std.proofs.lemmas.Bool.Decides.{nat_tests}
use Rattle.std.specs.Prelude.{slice_set}
use Rattle.inverter_sim.specs.Serve.{after_among, after_pdu}
use Rattle.inverter_sim.proofs.Devices.{changed_here}
use Rattle.inverter_sim.proofs.plant.serve_among.Goals as goal

pub returns-then-unit-clause-after : goal.returns-then-unit-clause-after
returns-then-unit-clause-after c =
    let so_far = c.loop-device.invariant in
    let same : (c.device-item.result.unit == c.args.unit) ≡ true = grind (arith, nat_tests, c.unit.ensures, c.if-unit.true, c.device-item.is) in
    let within : c.loop-device.device-index < length c.loop-device.devices = omega (arith, c.loop-device-test.true, c.loop-device.auto.devices, c.loop-device.auto.device-index-end) in
    let new = c.serve.ensures.after ∙ ap (λ d. after_pdu d c.args.pdu.now) (sym c.device-item.is) in
    ap (λ d. slice_set c.loop-device.devices c.loop-device.device-index d) new ∙ sym (changed_here c.loop-device.devices c.loop-device.device-index c.args.unit c.args.pdu.now c.device-item.result within c.device-item.is same) ∙ sym so_far.1 ∙ ap (λ ds. after_among ds c.args.unit c.args.pdu.now) so_far.0
