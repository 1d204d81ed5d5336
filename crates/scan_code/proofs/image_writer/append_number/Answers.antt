use Rattle.std.proofs.Common.{rules}
use Rattle.scan_code.specs.ImageSpelling.{spelled_number}
use Rattle.scan_code.proofs.image_writer.append_number.Goals as goal

pub returns : goal.returns
unfolding spelled_number
returns c = search rules
