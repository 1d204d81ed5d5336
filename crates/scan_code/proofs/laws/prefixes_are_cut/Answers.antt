use Rattle.scan_code.proofs.ImagePrefixes.{prefixes_are_cut}
use Rattle.scan_code.proofs.laws.prefixes_are_cut.Goals as goal

pub returns : goal.returns
returns c = prefixes_are_cut
