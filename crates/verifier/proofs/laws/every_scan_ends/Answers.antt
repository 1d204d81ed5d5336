use Rattle.verifier.proofs.Scans as scans
use Rattle.verifier.proofs.laws.every_scan_ends.Goals as goal

pub returns : goal.returns
returns c = scans.every_scan_ends
