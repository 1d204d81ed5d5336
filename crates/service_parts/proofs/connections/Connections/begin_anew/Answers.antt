use Rattle.std.proofs.Common.{rules, ◌≡◌, ◌≤◌, ◌<◌, Some, length, refl, slice_get}
use Rattle.std.proofs.lemmas.Option.{slice_get_read}
use Rattle.service_parts.proofs.Frames.{is_at, others_go, step_at}
use Rattle.service_parts.proofs.Placed.{none_there}
use Rattle.service_parts.proofs.Rightful.{with_cut}
use Rattle.service_parts.specs.Frames.{ComesUp, IsCut}
use Rattle.service_parts.proofs.connections.Connections.begin_anew.Goals as goal

pub returns-in-Some-clause-rightful : goal.returns-in-Some-clause-rightful
returns-in-Some-clause-rightful c now before = with_cut now _ _ _ _ c.args.link _ before c.come_up.ensures.cut

pub returns-in-Some-clause-others : goal.returns-in-Some-clause-others
returns-in-Some-clause-others c = others_go c.args.self.now.lines.items c.args.link _

pub returns-in-Some-clause-anew : goal.returns-in-Some-clause-anew
returns-in-Some-clause-anew c =
    let within : c.args.link < length c.args.self.now.lines.items = search rules in
    let at : slice_get c.args.self.now.lines.items c.args.link ≡ Some c.in-Some.line.now = slice_get_read _ _ c.args.link c.in-Some.line.now refl within c.in-Some.ensures.value in
    step_at ComesUp _ c.args.link c.in-Some.line.now _ at c.come_up.ensures

pub returns-in_default-clause-anew : goal.returns-in_default-clause-anew
returns-in_default-clause-anew c line at =
    let past : length c.args.self.now.lines.items ≤ c.args.link = search rules in
    none_there c.args.self.now.lines.items c.args.link past line at

pub returns-in-Some-clause-cut : goal.returns-in-Some-clause-cut
returns-in-Some-clause-cut c =
    let within : c.args.link < length c.args.self.now.lines.items = search rules in
    let at : slice_get c.args.self.now.lines.items c.args.link ≡ Some c.in-Some.line.now = slice_get_read _ _ c.args.link c.in-Some.line.now refl within c.in-Some.ensures.value in
    is_at IsCut _ c.args.link c.in-Some.line.now _ at c.come_up.ensures.cut
