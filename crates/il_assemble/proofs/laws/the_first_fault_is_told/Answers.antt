use Rattle.il_assemble.proofs.FirstFault.{the_first_fault_is_told}
use Rattle.il_assemble.proofs.laws.the_first_fault_is_told.Goals as goal

pub returns : goal.returns
returns c = the_first_fault_is_told
