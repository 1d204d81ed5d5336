use Rattle.il_assemble.proofs.Elaborating.{starts_are_in_range}
use Rattle.il_assemble.proofs.laws.starts_are_in_range.Goals as goal

pub returns : goal.returns
returns c = starts_are_in_range
