use Rattle.il_assemble.proofs.FirstUses.{the_first_use_counts}
use Rattle.il_assemble.proofs.laws.the_first_use_counts.Goals as goal

pub returns : goal.returns
returns c = the_first_use_counts
