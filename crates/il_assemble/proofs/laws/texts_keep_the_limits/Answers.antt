use Rattle.il_assemble.proofs.TextTrees.{texts_keep_the_limits}
use Rattle.il_assemble.proofs.laws.texts_keep_the_limits.Goals as goal

pub returns : goal.returns
returns c = texts_keep_the_limits c.reading_is_exact.ensures
