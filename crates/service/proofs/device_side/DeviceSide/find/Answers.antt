use Rattle.std.proofs.Common.{rules, ◌≡◌, ◌≤◌, ◌<◌, Some, length, refl, set, slice_get, ap, sym, ◌∙◌}
use Rattle.std.proofs.lemmas.Option.{slice_get_read}
use Rattle.service_parts.proofs.Placed.{none_there}
use Rattle.service.proofs.ByNotes.{finds_so, found_goes, found_quiet}
use Rattle.service.proofs.device_side.DeviceSide.find.Goals as goal

pub returns-then-found-clause-stands : goal.returns-then-found-clause-stands
returns-then-found-clause-stands c =
    let within : c.args.device < length c.args.self.now.devices.items = search rules in
    let at : slice_get c.args.self.now.devices.items c.args.device ≡ Some c.in-Some.found.now = slice_get_read _ _ c.args.device c.in-Some.found.now refl within c.in-Some.ensures.value in
    found_goes c.args.self.now _ c.args.device c.in-Some.found.now at _ refl (ap (λ d. d.is_lost) c.found.ensures.found) refl c.add.ensures.adds c.add.ensures.room refl

pub returns-else-found-clause-stands : goal.returns-else-found-clause-stands
returns-else-found-clause-stands c =
    let within : c.args.device < length c.args.self.now.devices.items = search rules in
    let at : slice_get c.args.self.now.devices.items c.args.device ≡ Some c.in-Some.found.now = slice_get_read _ _ c.args.device c.in-Some.found.now refl within c.in-Some.ensures.value in
    found_quiet c.args.self.now _ c.args.device c.in-Some.found.now at (sym c.found.ensures.told ∙ c.if-found.false) (ap (λ d. set c.args.self.now.devices.items c.args.device d) c.found.ensures.found) refl refl refl refl

pub returns-else-found-clause-finds : goal.returns-else-found-clause-finds
returns-else-found-clause-finds c own there =
    let within : c.args.device < length c.args.self.now.devices.items = search rules in
    let at : slice_get c.args.self.now.devices.items c.args.device ≡ Some c.in-Some.found.now = slice_get_read _ _ c.args.device c.in-Some.found.now refl within c.in-Some.ensures.value in
    finds_so c.args.self.now _ c.args.device c.in-Some.found.now own at there (sym c.found.ensures.told ∙ c.if-found.false) (ap (λ d. set c.args.self.now.devices.items c.args.device d) c.found.ensures.found) refl

pub returns-in_default-clause-finds : goal.returns-in_default-clause-finds
returns-in_default-clause-finds c own there =
    let past : length c.args.self.now.devices.items ≤ c.args.device = search rules in
    none_there c.args.self.now.devices.items c.args.device past own there
