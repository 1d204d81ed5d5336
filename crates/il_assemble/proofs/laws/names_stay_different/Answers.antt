use Rattle.il_assemble.proofs.Rules.{names_stay_different}
use Rattle.il_assemble.proofs.laws.names_stay_different.Goals as goal

pub returns : goal.returns
returns c = names_stay_different
