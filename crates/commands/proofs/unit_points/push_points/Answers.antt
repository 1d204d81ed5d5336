use Rattle.std.proofs.Common.{sym, []}
use Rattle.std.proofs.lemmas.List.{append-nil}
use Rattle.commands.specs.Probe.{points_by}
use Rattle.commands.proofs.UnitLemmas.{points_alone, points_read, points_stop, points_unread}
use Rattle.std.proofs.Common.{Some}
use Rattle.commands.proofs.unit_points.push_points.Goals as goal

pub returns-in_default-clause-read : goal.returns-in_default-clause-read
returns-in_default-clause-read g c = ([], sym (append-nil _), rw c.in_default.is (points_unread c.args.unit c.args.block.now c.args.poller.now c.requires))

pub returns-in-Ok-push_answer-clause-read : goal.returns-in-Ok-push_answer-clause-read
returns-in-Ok-push_answer-clause-read g c = (
  points_by c.in-Some.model.now c.in-Ok.answer,
  c.in-Ok-push_answer.ensures.ok,
  rw c.in-Some.is (points_read c.args.unit c.args.block.now c.in-Some.model.now c.args.poller.now c.ask.new.self c.in-Ok.answer c.points_request.result c.points_request.ensures.request (c.in-Ok.ensures.asks c.requires)),
)

pub returns-in-Err-push_answer-clause-stopped : goal.returns-in-Err-push_answer-clause-stopped
returns-in-Err-push_answer-clause-stopped g c =
    points_alone c.args.unit c.args.block.now (Some c.in-Some.model.now) c.args.poller.now c.ask.new.self (points_by c.in-Some.model.now c.in-Ok.answer)
    (points_read c.args.unit c.args.block.now c.in-Some.model.now c.args.poller.now c.ask.new.self c.in-Ok.answer c.points_request.result c.points_request.ensures.request (c.in-Ok.ensures.asks c.requires))

pub returns-in-Err-clause-stopped : goal.returns-in-Err-clause-stopped
returns-in-Err-clause-stopped g c =
    points_stop c.args.unit c.args.block.now c.in-Some.model.now c.args.poller.now c.ask.new.self c.in-Err.fault c.points_request.result c.points_request.ensures.request c.requires (c.in-Err.ensures.asks c.requires)
