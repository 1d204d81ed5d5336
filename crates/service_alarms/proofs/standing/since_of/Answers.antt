use Rattle.service_alarms.proofs.Found.{since_found}
use Rattle.service_alarms.proofs.standing.since_of.Goals as goal

pub returns : goal.returns
returns c = since_found c.args.stood.now c.from_first.result.now c.args.now c.args.subject c.since_among.result c.from_first.ensures c.since_among.ensures
