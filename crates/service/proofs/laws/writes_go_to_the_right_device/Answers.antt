use Rattle.service.proofs.Saying.{writes_go_right}
use Rattle.service.proofs.laws.writes_go_to_the_right_device.Goals as goal

pub returns : goal.returns
returns c = writes_go_right
