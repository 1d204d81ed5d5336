use Rattle.il_assemble.proofs.Unstored.{static_faults_want_no_memory}
use Rattle.il_assemble.proofs.laws.static_faults_want_no_memory.Goals as goal

pub returns : goal.returns
returns c = static_faults_want_no_memory
