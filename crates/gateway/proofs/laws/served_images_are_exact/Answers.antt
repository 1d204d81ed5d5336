use Rattle.gateway.proofs.Exact.{at_most_one_image}
use Rattle.gateway.proofs.laws.served_images_are_exact.Goals as goal

pub returns : goal.returns
returns c = at_most_one_image
