use Rattle.std.proofs.Common.{ap, refl}
use Rattle.service.specs.Cycle.{stage_of}
use Rattle.service.specs.Rounds.{Progress}
use Rattle.service.specs.Stages.{Skips}
use Rattle.service.proofs.Courses.{goes_skips, reached_rounds, same_stage}
use Rattle.service.proofs.Going.{skips_due}
use Rattle.service.proofs.cycle.Cycle.skip_writes.Goals as goal

pub invariant_of-self-clause-reached : goal.invariant_of-self-clause-reached
invariant_of-self-clause-reached c =
    let is : Skips c.args.device (stage_of c.args.self.now) (record { core = c.args.self.now.core.value; round = c.skip.new.self }) = same_stage _ _ refl c.skip.ensures.skips in
    reached_rounds _ _ c.args.self.now.reached (goes_skips _ _ c.args.device is)

pub returns : goal.returns
returns c =
    let is : Skips c.args.device (stage_of c.args.self.now) (record { core = c.args.self.now.core.value; round = c.skip.new.self }) = same_stage _ _ refl c.skip.ensures.skips in
    record { at = ap (λ (p : Progress). p.at) c.skip.ensures.skips; due = skips_due c.args.device _ _ is; skips = is; goes = goes_skips _ _ c.args.device is }
