use Rattle.scan_code.proofs.ImageSpelled.{images_have_one_spelling}
use Rattle.scan_code.proofs.laws.images_have_one_spelling.Goals as goal

pub returns : goal.returns
returns c = images_have_one_spelling
