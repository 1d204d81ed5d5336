use Rattle.il_assemble.proofs.Elaborating.{what_elaborates_is_well}
use Rattle.il_assemble.proofs.laws.what_elaborates_is_well.Goals as goal

pub returns : goal.returns
returns c = what_elaborates_is_well
