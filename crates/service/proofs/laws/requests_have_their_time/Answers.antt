use Rattle.service_parts.proofs.Frames.{requests_have_their_time}
use Rattle.service.proofs.laws.requests_have_their_time.Goals as goal

pub returns : goal.returns
returns c = requests_have_their_time
