use Rattle.service_requests.proofs.Cuts.{cuts_give_same}
use Rattle.service_requests.proofs.laws.cuts_give_the_same.Goals as goal

pub returns : goal.returns
returns c = cuts_give_same
