use Rattle.service_requests.proofs.Talking.{any_cut_is_answered}
use Rattle.service_requests.proofs.laws.any_cut_is_answered.Goals as goal

pub returns : goal.returns
returns g c = any_cut_is_answered g.R.Responder.answers
