use Rattle.gateway.proofs.Sized.{are_set_points}
use Rattle.gateway.proofs.laws.writes_are_set_points.Goals as goal

pub returns : goal.returns
returns c = are_set_points
