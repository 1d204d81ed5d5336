use Rattle.std.proofs.Common.{length}
use Rattle.service_requests.proofs.Texts.{IsTextTo}
use Rattle.service_requests.proofs.identity.text_end.Given as goal

abbrev pub invariant-loop-rest : goal.invariant-loop-rest
invariant-loop-rest l = IsTextTo l.bytes l.rest l.end l.seen

abbrev pub decreases-loop-rest : goal.decreases-loop-rest
decreases-loop-rest l = length l.rest
