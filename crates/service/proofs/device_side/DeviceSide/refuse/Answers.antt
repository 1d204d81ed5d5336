use Rattle.std.proofs.Common.{rules, ◌≡◌, ◌≤◌, ◌<◌, true, false, Some, length, refl, set, slice_get, ap, sym, ◌∙◌}
use Rattle.std.proofs.lemmas.Option.{slice_get_read}
use Rattle.service_parts.proofs.Placed.{none_there}
use Rattle.service.proofs.ByNotes.{refused_goes, refuses_so}
use Rattle.service.proofs.device_side.DeviceSide.refuse.Goals as goal

pub returns-then-refuse-clause-stands : goal.returns-then-refuse-clause-stands
returns-then-refuse-clause-stands c =
    let within : c.args.device < length c.args.self.now.devices.items = search rules in
    let at : slice_get c.args.self.now.devices.items c.args.device ≡ Some c.in-Some.found.now = slice_get_read _ _ c.args.device c.in-Some.found.now refl within c.in-Some.ensures.value in
    refused_goes c.args.self.now _ c.args.device c.in-Some.found.now at c.args.refusal true (ap (λ d. set c.args.self.now.devices.items c.args.device d) c.refuse.ensures.refused) refl c.add.ensures.adds c.add.ensures.room refl

pub returns-else-refuse-clause-stands : goal.returns-else-refuse-clause-stands
returns-else-refuse-clause-stands c =
    let within : c.args.device < length c.args.self.now.devices.items = search rules in
    let at : slice_get c.args.self.now.devices.items c.args.device ≡ Some c.in-Some.found.now = slice_get_read _ _ c.args.device c.in-Some.found.now refl within c.in-Some.ensures.value in
    refused_goes c.args.self.now _ c.args.device c.in-Some.found.now at c.args.refusal false (ap (λ d. set c.args.self.now.devices.items c.args.device d) c.refuse.ensures.refused) refl refl refl refl

pub returns-else-refuse-clause-refuses : goal.returns-else-refuse-clause-refuses
returns-else-refuse-clause-refuses c own there =
    let within : c.args.device < length c.args.self.now.devices.items = search rules in
    let at : slice_get c.args.self.now.devices.items c.args.device ≡ Some c.in-Some.found.now = slice_get_read _ _ c.args.device c.in-Some.found.now refl within c.in-Some.ensures.value in
    refuses_so c.args.self.now _ c.args.device c.in-Some.found.now c.args.refusal own at there (sym c.refuse.ensures.told ∙ c.if-refuse.false) (ap (λ d. set c.args.self.now.devices.items c.args.device d) c.refuse.ensures.refused) refl

pub returns-in_default-clause-refuses : goal.returns-in_default-clause-refuses
returns-in_default-clause-refuses c own there =
    let past : length c.args.self.now.devices.items ≤ c.args.device = search rules in
    none_there c.args.self.now.devices.items c.args.device past own there
