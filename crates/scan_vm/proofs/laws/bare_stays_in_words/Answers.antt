use Rattle.scan_vm.proofs.BareRun as runs
use Rattle.scan_vm.proofs.laws.bare_stays_in_words.Goals as goal

pub returns : goal.returns
returns c = runs.bare_stays_in_words
