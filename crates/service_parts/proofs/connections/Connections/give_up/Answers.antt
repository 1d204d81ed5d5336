use Rattle.std.proofs.Common.{rules, ◌≡◌, ◌<◌, Option, Some, length, refl, slice_get, ap, sym, ◌∙◌}
use Rattle.std.specs.Prelude.{option_and_then}
use Rattle.std.proofs.lemmas.Option.{slice_get_read}
use Rattle.service_parts.specs.declared.device_connection.DeviceConnection.{DeviceConnection}
use Rattle.service_parts.specs.Overdue.{is_over}
use Rattle.service_parts.proofs.Frames.{given_up_goes, set_other}
use Rattle.service_parts.proofs.Rightful.{with_given_up}
use Rattle.service_parts.proofs.connections.Connections.give_up.Goals as goal

pub returns-in-Some-clause-rightful : goal.returns-in-Some-clause-rightful
returns-in-Some-clause-rightful c now before =
    let within : c.args.link < length c.args.self.now.lines.items = search rules in
    let at : slice_get c.args.self.now.lines.items c.args.link ≡ Some c.in-Some.line.now = slice_get_read _ _ c.args.link c.in-Some.line.now refl within c.in-Some.ensures.value in
    with_given_up now _ _ _ _ c.args.link c.in-Some.line.now _ before at c.give_up.ensures.gives

pub returns-in-Some-clause-lines : goal.returns-in-Some-clause-lines
returns-in-Some-clause-lines c =
    let within : c.args.link < length c.args.self.now.lines.items = search rules in
    let at : slice_get c.args.self.now.lines.items c.args.link ≡ Some c.in-Some.line.now = slice_get_read _ _ c.args.link c.in-Some.line.now refl within c.in-Some.ensures.value in
    given_up_goes c.args.now _ c.args.link c.in-Some.line.now _ at c.give_up.ensures.gives (ap (λ (o : Option DeviceConnection). is_over c.args.now (option_and_then (λ (l : DeviceConnection). l.asked) o)) (sym at) ∙ c.requires.waited)

pub returns-in-Some-clause-others : goal.returns-in-Some-clause-others
returns-in-Some-clause-others c other away = set_other c.args.self.now.lines.items c.args.link other _ away
