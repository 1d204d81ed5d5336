use Rattle.std.proofs.Common.{rules, ◌≡◌, ◌<◌, Some, length, refl, slice_get, ap}
use Rattle.std.proofs.lemmas.Option.{slice_get_read}
use Rattle.service.proofs.ByNotes.{device_goes}
use Rattle.service.proofs.device_side.DeviceSide.say_anew.Goals as goal

pub returns-in-Some-clause-stands : goal.returns-in-Some-clause-stands
returns-in-Some-clause-stands c =
    let within : c.args.device < length c.args.self.now.devices.items = search rules in
    let at : slice_get c.args.self.now.devices.items c.args.device ≡ Some c.in-Some.found.now = slice_get_read _ _ c.args.device c.in-Some.found.now refl within c.in-Some.ensures.value in
    device_goes c.args.self.now _ c.args.device c.in-Some.found.now at _ refl (ap (λ d. d.is_lost) c.say_anew.ensures) refl refl refl refl
