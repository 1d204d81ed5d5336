use Rattle.il_assemble.proofs.Numbers.{numbered_counters_find_their_limits}
use Rattle.il_assemble.proofs.laws.numbered_counters_find_their_limits.Goals as goal

pub returns : goal.returns
returns c = numbered_counters_find_their_limits
