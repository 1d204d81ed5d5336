use Rattle.service.proofs.Whole.{site_is_served}
use Rattle.service.proofs.laws.site_is_served.Goals as goal

pub returns : goal.returns
returns g c = site_is_served g.R.Responder.answers
