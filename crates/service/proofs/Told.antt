-- What is told of a wanted block is a block, or that it is lost.
use Rattle.site_model.specs.declared.want.Want.{Want}
use Rattle.gateway.specs.declared.poller.outcome.Outcome.{Outcome}
use Rattle.gateway.specs.declared.poller.outcome.Outcome.TheVariants as outcome
use Rattle.gateway.specs.poller.Cycle.{event_by}
use Rattle.service_requests.specs.declared.request_end.RequestEnd.{RequestEnd}
use Rattle.service_requests.specs.declared.request_end.RequestEnd.TheVariants as fate
use Rattle.service.specs.Rounds.{event_of}
use Rattle.service_parts.specs.Course.{IsOfRounds}

of_outcome : (want : Want) (o : Outcome) → IsOfRounds (event_by want o)
of_outcome want (outcome.Words words) = tt
of_outcome want outcome.Wrote = tt
of_outcome want (outcome.Exception code) = tt
of_outcome want outcome.Mismatch = tt
of_outcome want outcome.Stale = tt

pub of_fate : (want : Want) (f : RequestEnd) → IsOfRounds (event_of want f)
of_fate want (fate.Told outcome) = of_outcome want outcome
of_fate want fate.Lost = tt
