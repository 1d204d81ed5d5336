use Rattle.std.proofs.Common.{rules, ◌≡◌, ◌≤◌, ◌<◌, Some, length, refl, slice_get}
use Rattle.std.proofs.lemmas.Option.{slice_get_read}
use Rattle.service_parts.proofs.Frames.{others_go, step_at}
use Rattle.service_parts.proofs.Placed.{none_there}
use Rattle.service_parts.proofs.Rightful.{with_heard}
use Rattle.service_parts.specs.Frames.{Hears}
use Rattle.service_parts.proofs.connections.Connections.take.Goals as goal

pub returns-in-Some-clause-rightful : goal.returns-in-Some-clause-rightful
returns-in-Some-clause-rightful c now before =
    let within : c.args.link < length c.args.self.now.lines.items = search rules in
    let at : slice_get c.args.self.now.lines.items c.args.link ≡ Some c.in-Some.line.now = slice_get_read _ _ c.args.link c.in-Some.line.now refl within c.in-Some.ensures.value in
    with_heard now _ _ _ _ c.args.link _ _ _ c.in-Some.line.now _ before at c.take.ensures.hears

pub returns-in-Some-clause-hears : goal.returns-in-Some-clause-hears
returns-in-Some-clause-hears c =
    let within : c.args.link < length c.args.self.now.lines.items = search rules in
    let at : slice_get c.args.self.now.lines.items c.args.link ≡ Some c.in-Some.line.now = slice_get_read _ _ c.args.link c.in-Some.line.now refl within c.in-Some.ensures.value in
    step_at (Hears _ _ _) _ c.args.link c.in-Some.line.now _ at c.take.ensures.hears

pub returns-in-Some-clause-others : goal.returns-in-Some-clause-others
returns-in-Some-clause-others c = others_go c.args.self.now.lines.items c.args.link _

pub returns-in-None-clause-hears : goal.returns-in-None-clause-hears
returns-in-None-clause-hears c line at =
    let past : length c.args.self.now.lines.items ≤ c.args.link = search rules in
    none_there c.args.self.now.lines.items c.args.link past line at
