use Rattle.std.proofs.Common.{rules, ◌≡◌, ◌≤◌, ◌<◌, Some, length, refl, slice_get}
use Rattle.std.proofs.lemmas.Option.{slice_get_read}
use Rattle.service_parts.proofs.Frames.{dialled_goes, dialled_there, set_other}
use Rattle.service_parts.proofs.Placed.{none_there}
use Rattle.service_parts.proofs.Rightful.{with_dialled}
use Rattle.service_parts.proofs.connections.Connections.dial.Goals as goal

pub returns-in-Some-clause-rightful : goal.returns-in-Some-clause-rightful
returns-in-Some-clause-rightful c now before =
    let within : c.args.link < length c.args.self.now.lines.items = search rules in
    let at : slice_get c.args.self.now.lines.items c.args.link ≡ Some c.in-Some.line.now = slice_get_read _ _ c.args.link c.in-Some.line.now refl within c.in-Some.ensures.value in
    with_dialled now _ _ _ _ c.args.link c.args.until c.in-Some.line.now _ before at c.dial.ensures

pub returns-in-Some-clause-lines : goal.returns-in-Some-clause-lines
returns-in-Some-clause-lines c =
    let within : c.args.link < length c.args.self.now.lines.items = search rules in
    let at : slice_get c.args.self.now.lines.items c.args.link ≡ Some c.in-Some.line.now = slice_get_read _ _ c.args.link c.in-Some.line.now refl within c.in-Some.ensures.value in
    dialled_goes _ c.args.link c.in-Some.line.now _ c.args.until at c.dial.ensures

pub returns-in-Some-clause-dials : goal.returns-in-Some-clause-dials
returns-in-Some-clause-dials c line there =
    let within : c.args.link < length c.args.self.now.lines.items = search rules in
    let at : slice_get c.args.self.now.lines.items c.args.link ≡ Some c.in-Some.line.now = slice_get_read _ _ c.args.link c.in-Some.line.now refl within c.in-Some.ensures.value in
    dialled_there _ c.args.link c.in-Some.line.now _ c.args.until at c.dial.ensures line there

pub returns-in-Some-clause-others : goal.returns-in-Some-clause-others
returns-in-Some-clause-others c other away = set_other c.args.self.now.lines.items c.args.link other _ away

pub returns-in_default-clause-dials : goal.returns-in_default-clause-dials
returns-in_default-clause-dials c line there =
    let past : length c.args.self.now.lines.items ≤ c.args.link = search rules in
    none_there c.args.self.now.lines.items c.args.link past line there
