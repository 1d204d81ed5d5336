use Rattle.service.proofs.LeftOut.{nothing_is_left_out_without_rewrite}
use Rattle.service.proofs.laws.nothing_is_left_out_without_rewrite.Goals as goal

pub returns : goal.returns
returns c = nothing_is_left_out_without_rewrite
