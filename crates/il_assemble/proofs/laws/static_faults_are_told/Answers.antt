use Rattle.il_assemble.proofs.FirstFault.{static_faults_are_told}
use Rattle.il_assemble.proofs.laws.static_faults_are_told.Goals as goal

pub returns : goal.returns
returns c = static_faults_are_told
