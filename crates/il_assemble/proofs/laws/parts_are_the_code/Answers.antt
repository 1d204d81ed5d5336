use Rattle.il_assemble.proofs.Parts.{parts_are_the_code}
use Rattle.il_assemble.proofs.laws.parts_are_the_code.Goals as goal

pub returns : goal.returns
returns c = parts_are_the_code
