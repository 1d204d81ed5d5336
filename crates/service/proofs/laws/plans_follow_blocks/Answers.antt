use Rattle.service.proofs.Planned.{plans_follow_blocks}
use Rattle.service.proofs.laws.plans_follow_blocks.Goals as goal

pub returns : goal.returns
returns c = plans_follow_blocks
