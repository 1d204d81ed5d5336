use Rattle.std.proofs.Common.{◌∙◌, ap}
use Rattle.scan_code.specs.ImageReading.{image_in}
use Rattle.scan_code.proofs.ImageReadBack.{images_read_back}
use Rattle.scan_code.proofs.image.Image.write.Goals as goal

pub returns-clause-read_back : goal.returns-clause-read_back
returns-clause-read_back c = ap image_in c.in_ok-bytes.ensures.spelled ∙ images_read_back c.args.self.now c.in_ok-bytes.ensures.proper
