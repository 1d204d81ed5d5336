use Rattle.std.proofs.Common.{◌≡◌, length}
use Rattle.site_model.specs.Gateway.{has_distinct_ids}
use Rattle.site_model.proofs.gateway.has_distinct_ids.Given as goal

abbrev pub invariant-loop-rest : goal.invariant-loop-rest
invariant-loop-rest l = has_distinct_ids l.models ≡ has_distinct_ids l.rest

abbrev pub decreases-loop-rest : goal.decreases-loop-rest
decreases-loop-rest l = length l.rest
