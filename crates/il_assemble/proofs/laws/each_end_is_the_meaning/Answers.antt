use Rattle.il_assemble.proofs.Lines.{each_end_is_the_meaning}
use Rattle.il_assemble.proofs.laws.each_end_is_the_meaning.Goals as goal

pub returns : goal.returns
returns c = each_end_is_the_meaning
