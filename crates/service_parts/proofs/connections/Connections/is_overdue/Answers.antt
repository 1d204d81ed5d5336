use Rattle.std.proofs.Common.{rules, ◌≡◌, ◌≤◌, ◌<◌, Some, length, slice_get, ap, sym, ◌∙◌}
use Rattle.std.specs.Prelude.{option_and_then}
use Rattle.std.proofs.lemmas.Option.{slice_get_past}
use Rattle.service_parts.specs.declared.device_connection.DeviceConnection.{DeviceConnection as LineValue}
use Rattle.service_parts.specs.Overdue.{is_over}
use Rattle.service_parts.proofs.Placed.{is_read}
use Rattle.service_parts.proofs.connections.Connections.is_overdue.Goals as goal

pub returns-in-Some : goal.returns-in-Some
returns-in-Some c =
    let same : c.args.self.now.lines.items ≡ c.deref.result.now = search rules in
    let within : c.args.link < length c.deref.result.now = search rules in
    let at : slice_get c.args.self.now.lines.items c.args.link ≡ Some c.in-Some.line.now = is_read _ _ c.deref.result.now c.in-Some.line.now same within c.in-Some.ensures.lookup.1 in
    c.is_overdue.ensures ∙ sym (ap (λ o. is_over c.args.now (option_and_then (λ (l : LineValue). l.asked) o)) at)

pub returns-in-None : goal.returns-in-None
returns-in-None c =
    let past : length c.args.self.now.lines.items ≤ c.args.link = search rules in
    sym (ap (λ o. is_over c.args.now (option_and_then (λ (l : LineValue). l.asked) o)) (slice_get_past c.args.self.now.lines.items c.args.link past))
