use Rattle.scan_vm.proofs.BareRun as runs
use Rattle.scan_vm.proofs.laws.bare_runs_out.Goals as goal

pub returns : goal.returns
returns c = runs.bare_runs_out
