use Rattle.il_assemble.proofs.Rules.{images_are_proper}
use Rattle.il_assemble.proofs.laws.images_are_proper.Goals as goal

pub returns : goal.returns
returns c = images_are_proper
