use Rattle.std.proofs.Common.{rules, ◌≡◌, ◌<◌, Some, length, refl, slice_get, ap}
use Rattle.std.proofs.lemmas.Option.{slice_get_read}
use Rattle.service.proofs.ByNotes.{waited_goes}
use Rattle.service.proofs.device_side.DeviceSide.await_write.Goals as goal

pub returns-in-Some-clause-stands : goal.returns-in-Some-clause-stands
returns-in-Some-clause-stands c =
    let within : c.args.output < length c.args.self.now.outputs.items = search rules in
    let at : slice_get c.args.self.now.outputs.items c.args.output ≡ Some c.in-Some.found.now = slice_get_read _ _ c.args.output c.in-Some.found.now refl within c.in-Some.ensures.value in
    waited_goes c.args.self.now _ c.args.output c.in-Some.found.now at _ refl (ap (λ o. o.told) c.wait.ensures) (ap (λ o. o.differs) c.wait.ensures) (ap (λ o. o.is_read_back) c.wait.ensures) refl refl refl refl
