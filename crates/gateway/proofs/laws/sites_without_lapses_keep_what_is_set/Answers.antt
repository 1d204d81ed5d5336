use Rattle.gateway.proofs.Waiting.{nothing_lapses}
use Rattle.gateway.proofs.laws.sites_without_lapses_keep_what_is_set.Goals as goal

pub returns : goal.returns
returns c = nothing_lapses
