use Rattle.il_assemble.proofs.Working.{examples_hold}
use Rattle.il_assemble.proofs.laws.examples_hold.Goals as goal

pub returns : goal.returns
returns c = examples_hold
