use Rattle.std.proofs.Common.{rules}
use Rattle.service.specs.Cycle.{stage_of}
use Rattle.service.specs.Stages.{OpensNext}
use Rattle.service.proofs.Calls.{opened_call}
use Rattle.service.proofs.Courses.{goes_opens, reached_rounds}
use Rattle.service.proofs.Timing.{opens_at}
use Rattle.service.proofs.cycle.Cycle.open.Goals as goal

pub invariant_of-self-clause-reached : goal.invariant_of-self-clause-reached
invariant_of-self-clause-reached c =
    let opens : OpensNext c.args.device c.open.result (stage_of c.args.self.now) (record { core = c.args.self.now.core.value; round = c.open.new.self }) = search rules in
    reached_rounds _ _ c.args.self.now.reached (goes_opens _ _ c.args.device c.open.result opens)

pub returns-clause-goes : goal.returns-clause-goes
returns-clause-goes c =
    let opens : OpensNext c.args.device c.open.result (stage_of c.args.self.now) (record { core = c.args.self.now.core.value; round = c.open.new.self }) = search rules in
    goes_opens _ _ c.args.device c.open.result opens

pub returns-clause-called : goal.returns-clause-called
returns-clause-called c aim call is =
    let opens : OpensNext c.args.device c.open.result (stage_of c.args.self.now) (record { core = c.args.self.now.core.value; round = c.open.new.self }) = search rules in
    opened_call c.args.self.now.core.value c.args.device c.args.self.now.round c.open.result c.open.new.self aim call c.args.self.now.fits opens.opens is

pub returns-clause-at : goal.returns-clause-at
returns-clause-at c =
    let opens : OpensNext c.args.device c.open.result (stage_of c.args.self.now) (record { core = c.args.self.now.core.value; round = c.open.new.self }) = search rules in
    opens_at c.args.self.now.core.value c.args.device c.args.self.now.round c.open.result c.open.new.self opens.opens
