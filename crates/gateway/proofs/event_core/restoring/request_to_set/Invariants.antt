use Rattle.std.proofs.Common.{drop}
use Rattle.gateway.proofs.SetAgain.{Before}
use Rattle.gateway.proofs.event_core.restoring.request_to_set.Given as goal

abbrev pub invariant-loop-point : goal.invariant-loop-point
invariant-loop-point l = Before l.site l.tag l.number l.addr (drop l.point-index l.points)
