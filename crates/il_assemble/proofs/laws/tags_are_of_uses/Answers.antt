use Rattle.il_assemble.proofs.FirstUses.{tags_are_of_uses}
use Rattle.il_assemble.proofs.laws.tags_are_of_uses.Goals as goal

pub returns : goal.returns
returns c = tags_are_of_uses
