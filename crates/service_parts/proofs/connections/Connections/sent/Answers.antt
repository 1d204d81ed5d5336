use Rattle.std.proofs.Common.{rules, ◌≡◌, ◌≤◌, ◌<◌, Some, length, refl, slice_get, sym, ◌∙◌}
use Rattle.std.proofs.lemmas.Option.{none-some, slice_get_read}
use Rattle.service_parts.proofs.Frames.{others_go, step_at}
use Rattle.service_parts.proofs.Placed.{none_there}
use Rattle.service_parts.proofs.Rightful.{with_sent}
use Rattle.service_parts.specs.Frames.{Sends}
use Rattle.service_parts.proofs.connections.Connections.sent.Goals as goal

pub returns-in-Some-clause-rightful : goal.returns-in-Some-clause-rightful
returns-in-Some-clause-rightful c now before =
    let within : c.args.link < length c.args.self.now.lines.items = search rules in
    let at : slice_get c.args.self.now.lines.items c.args.link ≡ Some c.in-Some.line.now = slice_get_read _ _ c.args.link c.in-Some.line.now refl within c.in-Some.ensures.value in
    with_sent now _ _ _ _ c.args.link c.args.n c.in-Some.line.now _ before at c.sent.ensures

pub returns-in-Some-clause-sends : goal.returns-in-Some-clause-sends
returns-in-Some-clause-sends c =
    let within : c.args.link < length c.args.self.now.lines.items = search rules in
    let at : slice_get c.args.self.now.lines.items c.args.link ≡ Some c.in-Some.line.now = slice_get_read _ _ c.args.link c.in-Some.line.now refl within c.in-Some.ensures.value in
    step_at (Sends c.args.n) _ c.args.link c.in-Some.line.now _ at c.sent.ensures

pub returns-in-Some-clause-others : goal.returns-in-Some-clause-others
returns-in-Some-clause-others c = others_go c.args.self.now.lines.items c.args.link _

pub returns-in_default-clause-sends : goal.returns-in_default-clause-sends
returns-in_default-clause-sends c line at =
    let past : length c.args.self.now.lines.items ≤ c.args.link = search rules in
    none_there c.args.self.now.lines.items c.args.link past line at

pub returns-in-Some-clause-none : goal.returns-in-Some-clause-none
returns-in-Some-clause-none c none =
    let within : c.args.link < length c.args.self.now.lines.items = search rules in
    let at : slice_get c.args.self.now.lines.items c.args.link ≡ Some c.in-Some.line.now = slice_get_read _ _ c.args.link c.in-Some.line.now refl within c.in-Some.ensures.value in
    absurd (none-some _ (sym none ∙ at))
