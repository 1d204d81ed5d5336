use Rattle.service.proofs.Together.{writes_go_with_what_is_had}
use Rattle.service.proofs.laws.writes_go_with_what_is_had.Goals as goal

pub returns : goal.returns
returns c = writes_go_with_what_is_had
