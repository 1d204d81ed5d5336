use Rattle.service.proofs.Blocks.{scans_are_of_what_was_told}
use Rattle.service.proofs.laws.scans_are_of_what_was_told.Goals as goal

pub returns : goal.returns
returns c = scans_are_of_what_was_told
