use Rattle.std.proofs.Common.{ap, arith, sym}
use Rattle.std.specs.Str.{bytes_eq}
use Rattle.name_places.proofs.Places.{at_first, one_more}
use Rattle.site_model.specs.Tagging.{is_device_named}
use Rattle.site_model.proofs.device_numbers.device_numbers.Goals as goal

pub loop-number-init : goal.loop-number-init
loop-number-init c = at_first is_device_named c.args.devices.now c.new-numbers.result.entries c.new-numbers.ensures.empty

pub loop-number-preserved : goal.loop-number-preserved
loop-number-preserved c =
    one_more is_device_named c.args.devices.now c.loop-number.number c.index-devices-number.result c.loop-number.numbers.entries c.note.new.places.entries c.as_str.result.now
    (omega (arith, c.loop-number-test.true)) c.index-devices-number.is (λ other. ap (bytes_eq other) (sym c.as_str.ensures)) c.in_ok-note.ensures c.loop-number.invariant
