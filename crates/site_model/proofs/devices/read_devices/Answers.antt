use Rattle.std.proofs.Common.{◌≡◌, ◌∙◌, [], Err, Ok, subst}
use Rattle.toml.specs.View.{view}
use Rattle.file_keys.proofs.InOrder.{next_read, refused_here}
use Rattle.site_model.specs.Devices.{device_of, devices_behind}
use Rattle.site_model.specs.declared.part.SitePart.TheVariants as parts
use Rattle.site_model.proofs.Refused.{devices_in_order, one_longer, rest_read, told_of_fault}
use Rattle.site_model.proofs.devices.read_devices.Goals as goal

pub returns-in_err-device-clause-placed : goal.returns-in_err-device-clause-placed
returns-in_err-device-clause-placed c =
    let l = c.loop-entry in
    told_of_fault c.from_residual.result c.in_err-device.field-0.0 _ c.from_residual.ensures.1 (λ real.
    refused_here devices_behind device_of parts.Device [] l.devices c.args.entries.now l.entry-index c.len.result c.entry-item.result c.in_err-device.field-0.0
    c.loop-entry-test.true c.entry-item.is (c.len.ensures ∙ l.invariant.2) l.invariant.1
    (subst (λ seen. device_of seen (view c.entry-item.result) ≡ Err c.in_err-device.field-0.0) c.as_slice.ensures (c.in_err-device.ensures.refused real)))

pub loop-entry-preserved : goal.loop-entry-preserved
loop-entry-preserved c =
    let l = c.loop-entry in
    let good = subst (λ seen. device_of seen (view c.entry-item.result) ≡ Ok c.in_ok-device.device) c.as_slice.ensures c.in_ok-device.ensures.told in
    let longer = c.in_ok-push.ensures.ok in (
      rw longer (l.invariant.0 ∙ rest_read devices_in_order l.devices c.args.entries.now l.entry-index c.entry-item.result c.in_ok-device.device c.loop-entry-test.true c.entry-item.is good),
      rw longer (next_read devices_in_order [] l.devices c.args.entries.now l.entry-index c.entry-item.result c.in_ok-device.device c.loop-entry-test.true c.entry-item.is l.invariant.1 good),
      one_longer l.devices c.push.new.self c.in_ok-device.device l.entry-index longer l.invariant.2,
    )
