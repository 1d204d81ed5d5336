use Rattle.scan_vm.proofs.BareRun as runs
use Rattle.scan_vm.proofs.laws.bare_agrees.Goals as goal

pub returns : goal.returns
returns c = runs.bare_agrees
