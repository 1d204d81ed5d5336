use Rattle.std.proofs.Common.{rules, ◌≡◌, ◌<◌, Some, length, refl, slice_get}
use Rattle.std.proofs.lemmas.Option.{slice_get_read}
use Rattle.service_parts.proofs.Frames.{keeps_goes, set_other}
use Rattle.service_parts.proofs.Rightful.{with_kept}
use Rattle.service_parts.proofs.connections.Connections.missed.Goals as goal

pub returns-in-Some-clause-rightful : goal.returns-in-Some-clause-rightful
returns-in-Some-clause-rightful c now before =
    let within : c.args.link < length c.args.self.now.lines.items = search rules in
    let at : slice_get c.args.self.now.lines.items c.args.link ≡ Some c.in-Some.line.now = slice_get_read _ _ c.args.link c.in-Some.line.now refl within c.in-Some.ensures.value in
    with_kept now _ _ _ _ c.args.link c.in-Some.line.now _ before at c.missed.ensures

pub returns-in-Some-clause-lines : goal.returns-in-Some-clause-lines
returns-in-Some-clause-lines c =
    let within : c.args.link < length c.args.self.now.lines.items = search rules in
    let at : slice_get c.args.self.now.lines.items c.args.link ≡ Some c.in-Some.line.now = slice_get_read _ _ c.args.link c.in-Some.line.now refl within c.in-Some.ensures.value in
    keeps_goes _ c.args.link c.in-Some.line.now _ at c.missed.ensures

pub returns-in-Some-clause-others : goal.returns-in-Some-clause-others
returns-in-Some-clause-others c other away = set_other c.args.self.now.lines.items c.args.link other _ away
