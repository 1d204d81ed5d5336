use Rattle.std.proofs.Common.{rules, ◌≡◌, ◌≤◌, ◌<◌, Some, length, refl, set, slice_get, ap, sym, ◌∙◌}
use Rattle.std.proofs.lemmas.Option.{slice_get_read}
use Rattle.service.proofs.ByNotes.{put_showing, shown_nowhere, shown_quiet, shown_told}
use Rattle.service.proofs.device_side.DeviceSide.show.Goals as goal

pub returns-then-show-clause-shows : goal.returns-then-show-clause-shows
returns-then-show-clause-shows c =
    let within : c.args.output < length c.args.self.now.outputs.items = search rules in
    let at : slice_get c.args.self.now.outputs.items c.args.output ≡ Some c.in-Some.found.now = slice_get_read _ _ c.args.output c.in-Some.found.now refl within c.in-Some.ensures.value in
    put_showing c.args.self.now.outputs.items c.args.output c.in-Some.found.now c.args.shown at _ c.show.ensures.shows

pub returns-else-show-clause-shows : goal.returns-else-show-clause-shows
returns-else-show-clause-shows c =
    let within : c.args.output < length c.args.self.now.outputs.items = search rules in
    let at : slice_get c.args.self.now.outputs.items c.args.output ≡ Some c.in-Some.found.now = slice_get_read _ _ c.args.output c.in-Some.found.now refl within c.in-Some.ensures.value in
    put_showing c.args.self.now.outputs.items c.args.output c.in-Some.found.now c.args.shown at _ c.show.ensures.shows

pub returns-in_default-clause-shows : goal.returns-in_default-clause-shows
returns-in_default-clause-shows c =
    let past : length c.args.self.now.outputs.items ≤ c.args.output = search rules in
    shown_nowhere c.args.self.now.outputs.items c.args.output c.args.shown past

pub returns-then-show-clause-stands : goal.returns-then-show-clause-stands
returns-then-show-clause-stands c =
    let within : c.args.output < length c.args.self.now.outputs.items = search rules in
    let at : slice_get c.args.self.now.outputs.items c.args.output ≡ Some c.in-Some.found.now = slice_get_read _ _ c.args.output c.in-Some.found.now refl within c.in-Some.ensures.value in
    shown_told c.args.self.now _ c.args.output c.in-Some.found.now at c.args.shown (sym c.show.ensures.told ∙ c.if-show.true) (ap (λ o. set c.args.self.now.outputs.items c.args.output o) c.show.ensures.shows) refl c.add.ensures.adds c.add.ensures.room refl c.note_by.ensures

pub returns-else-show-clause-stands : goal.returns-else-show-clause-stands
returns-else-show-clause-stands c =
    let within : c.args.output < length c.args.self.now.outputs.items = search rules in
    let at : slice_get c.args.self.now.outputs.items c.args.output ≡ Some c.in-Some.found.now = slice_get_read _ _ c.args.output c.in-Some.found.now refl within c.in-Some.ensures.value in
    shown_quiet c.args.self.now _ c.args.output c.in-Some.found.now at c.args.shown (sym c.show.ensures.told ∙ c.if-show.false) (ap (λ o. set c.args.self.now.outputs.items c.args.output o) c.show.ensures.shows) refl refl refl refl
