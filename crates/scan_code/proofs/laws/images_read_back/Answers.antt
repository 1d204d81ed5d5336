use Rattle.scan_code.proofs.ImageReadBack.{images_read_back, more_is_rest}
use Rattle.scan_code.proofs.laws.images_read_back.Goals as goal

pub returns-clause-alone : goal.returns-clause-alone
returns-clause-alone c = images_read_back

pub returns-clause-more : goal.returns-clause-more
returns-clause-more c = more_is_rest
