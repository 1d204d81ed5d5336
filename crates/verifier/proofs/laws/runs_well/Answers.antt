use Rattle.verifier.proofs.Scans as scans
use Rattle.verifier.proofs.laws.runs_well.Goals as goal

pub returns : goal.returns
returns c = scans.runs_well
