use Rattle.std.proofs.Common.{rules, ◌≡◌, ◌≤◌, ◌<◌, true, false, Some, length, refl, set, slice_get, ap, sym, ◌∙◌}
use Rattle.std.proofs.lemmas.Option.{slice_get_past, slice_get_read}
use Rattle.service.proofs.ByNotes.{lost_goes, loses_so, was_by}
use Rattle.service.proofs.Counted.{counts_loss, counts_none}
use Rattle.service_parts.proofs.Placed.{none_there}
use Rattle.service.proofs.device_side.DeviceSide.lose.Goals as goal

pub returns-then-lose-clause-stands : goal.returns-then-lose-clause-stands
returns-then-lose-clause-stands c =
    let within : c.args.device < length c.args.self.now.devices.items = search rules in
    let at : slice_get c.args.self.now.devices.items c.args.device ≡ Some c.in-Some.found.now = slice_get_read _ _ c.args.device c.in-Some.found.now refl within c.in-Some.ensures.value in
    lost_goes c.args.self.now _ c.args.device c.in-Some.found.now at c.args.loss false (was_by _ true (sym c.lose.ensures.told ∙ c.if-lose.true)) (ap (λ d. set c.args.self.now.devices.items c.args.device d) c.lose.ensures.lost) refl c.add.ensures.adds c.add.ensures.room refl

pub returns-else-lose-clause-stands : goal.returns-else-lose-clause-stands
returns-else-lose-clause-stands c =
    let within : c.args.device < length c.args.self.now.devices.items = search rules in
    let at : slice_get c.args.self.now.devices.items c.args.device ≡ Some c.in-Some.found.now = slice_get_read _ _ c.args.device c.in-Some.found.now refl within c.in-Some.ensures.value in
    lost_goes c.args.self.now _ c.args.device c.in-Some.found.now at c.args.loss true (was_by _ false (sym c.lose.ensures.told ∙ c.if-lose.false)) (ap (λ d. set c.args.self.now.devices.items c.args.device d) c.lose.ensures.lost) refl refl refl refl

pub returns-else-lose-clause-loses : goal.returns-else-lose-clause-loses
returns-else-lose-clause-loses c own there =
    let within : c.args.device < length c.args.self.now.devices.items = search rules in
    let at : slice_get c.args.self.now.devices.items c.args.device ≡ Some c.in-Some.found.now = slice_get_read _ _ c.args.device c.in-Some.found.now refl within c.in-Some.ensures.value in
    loses_so c.args.self.now _ c.args.device c.in-Some.found.now c.args.loss own at there (was_by _ false (sym c.lose.ensures.told ∙ c.if-lose.false)) (ap (λ d. set c.args.self.now.devices.items c.args.device d) c.lose.ensures.lost) refl

pub returns-in_default-clause-loses : goal.returns-in_default-clause-loses
returns-in_default-clause-loses c own there =
    let past : length c.args.self.now.devices.items ≤ c.args.device = search rules in
    none_there c.args.self.now.devices.items c.args.device past own there

pub returns-then-lose-clause-counts : goal.returns-then-lose-clause-counts
returns-then-lose-clause-counts c =
    let within : c.args.device < length c.args.self.now.devices.items = search rules in
    let at : slice_get c.args.self.now.devices.items c.args.device ≡ Some c.in-Some.found.now = slice_get_read _ _ c.args.device c.in-Some.found.now refl within c.in-Some.ensures.value in
    counts_loss c.args.self.now _ c.args.device c.in-Some.found.now at c.args.loss (ap (λ d. set c.args.self.now.devices.items c.args.device d) c.lose.ensures.lost)

pub returns-else-lose-clause-counts : goal.returns-else-lose-clause-counts
returns-else-lose-clause-counts c =
    let within : c.args.device < length c.args.self.now.devices.items = search rules in
    let at : slice_get c.args.self.now.devices.items c.args.device ≡ Some c.in-Some.found.now = slice_get_read _ _ c.args.device c.in-Some.found.now refl within c.in-Some.ensures.value in
    counts_loss c.args.self.now _ c.args.device c.in-Some.found.now at c.args.loss (ap (λ d. set c.args.self.now.devices.items c.args.device d) c.lose.ensures.lost)

pub returns-in_default-clause-counts : goal.returns-in_default-clause-counts
returns-in_default-clause-counts c =
    let past : length c.args.self.now.devices.items ≤ c.args.device = search rules in
    counts_none c.args.self.now c.args.device c.args.loss (slice_get_past c.args.self.now.devices.items c.args.device past)
