use Rattle.scan_vm.proofs.BareWords as words
use Rattle.scan_vm.proofs.laws.never_wraps.Goals as goal

pub returns : goal.returns
returns c = record { run = words.never_wraps; wrapped = words.wrapped_keeps }
