use Rattle.std.proofs.Common.{rules, ◌≡◌, ◌≤◌, ◌<◌, length}
use Rattle.service_parts.specs.declared.device_connection.DeviceConnection.{DeviceConnection as LineValue}
use Rattle.service_parts.proofs.Placed.{is_read, stands, stands_none}
use Rattle.service_parts.proofs.Rightful.{waits_on}
use Rattle.service_parts.proofs.connections.Connections.to_send.Goals as goal

pub returns-in-Some-clause-rightful : goal.returns-in-Some-clause-rightful
returns-in-Some-clause-rightful c now before =
    let same : c.args.self.now.lines.items ≡ c.deref.result.now = search rules in
    let within : c.args.link < length c.deref.result.now = search rules in
    waits_on now c.args.self.now c.args.link c.in-Some.line.now _ before (is_read c.args.self.now.lines.items c.args.link c.deref.result.now c.in-Some.line.now same within c.in-Some.ensures.lookup.1) c.out.ensures

pub returns-in-Some-clause-waits : goal.returns-in-Some-clause-waits
returns-in-Some-clause-waits c =
    let same : c.args.self.now.lines.items ≡ c.deref.result.now = search rules in
    let within : c.args.link < length c.deref.result.now = search rules in
    stands (λ (x : LineValue). c.out.result.now ≡ x.out.items) _ _ c.deref.result.now c.in-Some.line.now same within c.in-Some.ensures.lookup.1 c.out.ensures

pub returns-in-None-clause-waits : goal.returns-in-None-clause-waits
returns-in-None-clause-waits c =
    let past : length c.args.self.now.lines.items ≤ c.args.link = search rules in
    stands_none _ _ _ past
