use Rattle.std.proofs.Common.{Bool, false}
use Rattle.facts.proofs.Lists.{map_one}
use Rattle.facts.proofs.parts.none_present.Goals as goal

pub returns : goal.returns
returns c = rw (map_one {B = Bool} c.args.tags.now false) c.none.ensures
