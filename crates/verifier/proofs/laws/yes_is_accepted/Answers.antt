use Rattle.verifier.proofs.Scans as scans
use Rattle.verifier.proofs.laws.yes_is_accepted.Goals as goal

pub returns : goal.returns
returns c = scans.yes_is_accepted
