use Rattle.il_assemble.proofs.Lines.{runs_that_are_over_stay_over}
use Rattle.il_assemble.proofs.laws.runs_that_are_over_stay_over.Goals as goal

pub returns : goal.returns
returns c = runs_that_are_over_stay_over
