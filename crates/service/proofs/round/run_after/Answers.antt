use Rattle.std.proofs.Common.{refl}
use Rattle.service.proofs.round.run_after.Goals as goal

pub returns-clause-scanned : goal.returns-clause-scanned
returns-clause-scanned c = record {
  waited = c.step.new.self;
  waits = (32, (((refl, c.step.ensures.run.1), c.step.ensures.same), c.step.ensures.machine));
  runs = (32, (((refl, c.step-2.ensures.run.1), c.step-2.ensures.same), c.step-2.ensures.machine));
}
