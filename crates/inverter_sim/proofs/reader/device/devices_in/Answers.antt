use Rattle.std.proofs.Common.{◌≡◌, ◌++◌, ◌∷◌, ◌∙◌, [], length, Err, Ok, subst}
use Rattle.toml.specs.View.{view}
use Rattle.file_keys.proofs.InOrder.{next_read}
use Rattle.inverter_sim.specs.File.{device_of}
use Rattle.inverter_sim.specs.Parts.{IsInDevice}
use Rattle.inverter_sim.proofs.Entries.{devices_broken, devices_more}
use Rattle.inverter_sim.proofs.Refused.{device_here, devices_in_order, one_longer, told_of_fault, told_of_match}
use Rattle.inverter_sim.proofs.reader.device.devices_in.Goals as goal

pub returns-in_err-device-clause-read : goal.returns-in_err-device-clause-read
returns-in_err-device-clause-read c =
    let l = c.loop-entry in
    let defs = c.args.defs.now in
    told_of_match c.from_residual.result c.in_err-device.field-0.0 _ _ c.from_residual.ensures.1 (λ real.
    l.invariant.0 ∙ devices_broken defs c.args.entries.now l.entry-index c.entry-item.result l.devices.items c.in_err-device.field-0.0 c.loop-entry-test.true c.entry-item.is
    (subst (λ seen. device_of defs seen (view c.entry-item.result) ≡ Err c.in_err-device.field-0.0) c.deref.ensures.value (c.in_err-device.ensures.read real)))

pub returns-in_err-device-clause-placed : goal.returns-in_err-device-clause-placed
returns-in_err-device-clause-placed c =
    let l = c.loop-entry in
    let defs = c.args.defs.now in
    told_of_fault c.from_residual.result c.in_err-device.field-0.0 _ c.from_residual.ensures.1 (λ real.
    device_here defs l.devices.items c.args.entries.now l.entry-index (length l.devices.items) c.entry-item.result _ c.in_err-device.field-0.0 c.loop-entry-test.true c.entry-item.is l.invariant.2 l.invariant.1
    (subst (λ seen. IsInDevice defs seen (length seen) (view c.entry-item.result) c.device_of.new.part c.in_err-device.field-0.0) c.deref.ensures.value (c.in_err-device.ensures.placed real)))

pub loop-entry-preserved : goal.loop-entry-preserved
loop-entry-preserved c =
    let l = c.loop-entry in
    let defs = c.args.defs.now in
    let good = subst (λ seen. device_of defs seen (view c.entry-item.result) ≡ Ok c.in_ok-device.device) c.deref.ensures.value c.in_ok-device.ensures.read in
    let longer : c.push.new.self.items ≡ l.devices.items ++ c.in_ok-device.device ∷ [] = c.in_ok-push.ensures.items in (
      rw longer (l.invariant.0 ∙ devices_more defs c.args.entries.now l.entry-index c.entry-item.result l.devices.items c.in_ok-device.device c.loop-entry-test.true c.entry-item.is good),
      rw longer (next_read (devices_in_order defs) [] l.devices.items c.args.entries.now l.entry-index c.entry-item.result c.in_ok-device.device c.loop-entry-test.true c.entry-item.is l.invariant.1 good),
      one_longer l.devices.items c.push.new.self.items c.in_ok-device.device l.entry-index longer l.invariant.2,
    )
