use Rattle.std.proofs.Common.{◌≡◌}
use Rattle.service_alarms.specs.Changing.{subject_of}
use Rattle.service_alarms.specs.Finding.{from_first}
use Rattle.service_alarms.proofs.Found.{stood_found}
use Rattle.service_alarms.proofs.changes.has_stood.Goals as goal

pub returns : goal.returns
returns c =
    let found : c.from_first.result.now ≡ from_first c.args.stood.now (subject_of c.args.alarm) = cc in
    stood_found c.args.stood.now c.from_first.result.now c.args.alarm c.is_among.result found c.is_among.ensures
