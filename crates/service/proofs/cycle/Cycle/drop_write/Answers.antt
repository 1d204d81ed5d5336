use Rattle.std.proofs.Common.{refl}
use Rattle.service.specs.Cycle.{stage_of}
use Rattle.service.specs.Stages.{Ends}
use Rattle.service.proofs.Courses.{goes_ends, reached_rounds}
use Rattle.service.proofs.Going.{ends_due}
use Rattle.service.proofs.Timing.{closes_at}
use Rattle.service.proofs.cycle.Cycle.drop_write.Goals as goal

pub invariant_of-self-clause-reached : goal.invariant_of-self-clause-reached
invariant_of-self-clause-reached c =
    let is : Ends c.args.device (stage_of c.args.self.now) (record { core = c.args.self.now.core.value; round = c.close.new.self }) = record { closes = c.close.ensures.closes; core = refl } in
    reached_rounds _ _ c.args.self.now.reached (goes_ends _ _ c.args.device is)

pub returns : goal.returns
returns c =
    let is : Ends c.args.device (stage_of c.args.self.now) (record { core = c.args.self.now.core.value; round = c.close.new.self }) = record { closes = c.close.ensures.closes; core = refl } in
    record { at = closes_at c.args.device c.args.self.now.round c.close.new.self c.close.ensures.closes; due = ends_due c.args.device _ _ is; ends = is; goes = goes_ends _ _ c.args.device is }
