use Rattle.service_requests.proofs.Cuts.{outcomes_are_decided}
use Rattle.service_requests.proofs.laws.outcomes_are_decided.Goals as goal

pub returns : goal.returns
returns c = outcomes_are_decided
