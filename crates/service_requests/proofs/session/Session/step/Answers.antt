use Rattle.std.proofs.Common.{rules}
use Rattle.service_requests.specs.Sessions.{IsFree}
use Rattle.service_requests.proofs.Turning.{serves_one, serves_put}
use Rattle.service_requests.proofs.session.Session.step.Goals as goal

pub returns-then-is_free-clause-serves : goal.returns-then-is_free-clause-serves
returns-then-is_free-clause-serves g c =
    let free : IsFree c.args.self.now = search rules in
    serves_one g.R.Responder.answers _ _ _ _ _ _ _ _ free c.take-used.ensures.takes c.put-put.ensures.puts

pub returns-clause-serves : goal.returns-clause-serves
returns-clause-serves g c = serves_put g.R.Responder.answers _ _ _ _ c.put-put-2.ensures.puts
