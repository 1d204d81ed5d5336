use Rattle.std.proofs.Common.{◌≡◌, ◌∙◌, Some, None, sym}
use Rattle.service_alarms.specs.Finding.{place_from, stood_for}
use Rattle.service_alarms.proofs.Found.{first_place, no_place}
use Rattle.service_alarms.proofs.standing.from_first.Goals as goal

pub split_at-requires : goal.split_at-requires
split_at-requires c =
    let told : place_from stood_for c.args.stood.now 0 c.args.subject ≡ Some c.in-Some.i = cc (c.requires c.args.subject) in
    (first_place c.args.stood.now c.in-Some.i c.args.subject told).0

pub returns-in-Some : goal.returns-in-Some
returns-in-Some c =
    let told : place_from stood_for c.args.stood.now 0 c.args.subject ≡ Some c.in-Some.i = cc (c.requires c.args.subject) in
    c.split_at.ensures.back ∙ (first_place c.args.stood.now c.in-Some.i c.args.subject told).1

pub returns-in-None : goal.returns-in-None
returns-in-None c =
    let told : place_from stood_for c.args.stood.now 0 c.args.subject ≡ None = cc (c.requires c.args.subject) in
    sym (no_place c.args.stood.now 0 c.args.subject told)
