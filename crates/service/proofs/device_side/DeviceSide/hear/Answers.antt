use Rattle.std.proofs.Common.{rules, ◌≡◌, ◌≤◌, ◌<◌, true, false, Some, length, refl, set, slice_get, ap, sym, ◌∙◌}
use Rattle.std.proofs.lemmas.Option.{slice_get_read}
use Rattle.service_parts.proofs.Placed.{none_there}
use Rattle.service.proofs.ByNotes.{heard_goes, hears_so}
use Rattle.service.proofs.device_side.DeviceSide.hear.Goals as goal

pub returns-then-heard-clause-stands : goal.returns-then-heard-clause-stands
returns-then-heard-clause-stands c =
    let within : c.args.device < length c.args.self.now.devices.items = search rules in
    let at : slice_get c.args.self.now.devices.items c.args.device ≡ Some c.in-Some.found.now = slice_get_read _ _ c.args.device c.in-Some.found.now refl within c.in-Some.ensures.value in
    heard_goes c.args.self.now _ c.args.device c.in-Some.found.now at c.args.is_mapped true (sym c.heard.ensures.back ∙ c.if-heard.true) (ap (λ d. set c.args.self.now.devices.items c.args.device d) c.heard.ensures.heard) refl c.add.ensures.adds c.add.ensures.room refl

pub returns-else-heard-clause-stands : goal.returns-else-heard-clause-stands
returns-else-heard-clause-stands c =
    let within : c.args.device < length c.args.self.now.devices.items = search rules in
    let at : slice_get c.args.self.now.devices.items c.args.device ≡ Some c.in-Some.found.now = slice_get_read _ _ c.args.device c.in-Some.found.now refl within c.in-Some.ensures.value in
    heard_goes c.args.self.now _ c.args.device c.in-Some.found.now at c.args.is_mapped false (sym c.heard.ensures.back ∙ c.if-heard.false) (ap (λ d. set c.args.self.now.devices.items c.args.device d) c.heard.ensures.heard) refl refl refl refl

pub returns-else-heard-clause-hears : goal.returns-else-heard-clause-hears
returns-else-heard-clause-hears c own there =
    let within : c.args.device < length c.args.self.now.devices.items = search rules in
    let at : slice_get c.args.self.now.devices.items c.args.device ≡ Some c.in-Some.found.now = slice_get_read _ _ c.args.device c.in-Some.found.now refl within c.in-Some.ensures.value in
    hears_so c.args.self.now _ c.args.device c.in-Some.found.now c.args.is_mapped own at there (sym c.heard.ensures.back ∙ c.if-heard.false) (ap (λ d. set c.args.self.now.devices.items c.args.device d) c.heard.ensures.heard) refl

pub returns-in_default-clause-hears : goal.returns-in_default-clause-hears
returns-in_default-clause-hears c own there =
    let past : length c.args.self.now.devices.items ≤ c.args.device = search rules in
    none_there c.args.self.now.devices.items c.args.device past own there
