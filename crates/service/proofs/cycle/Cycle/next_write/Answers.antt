use Rattle.service.specs.Cycle.{stage_of}
use Rattle.service.proofs.Going.{asks_next, rests_next}
use Rattle.service.proofs.cycle.Cycle.next_write.Goals as goal

pub returns-in-Ask-clause-due : goal.returns-in-Ask-clause-due
returns-in-Ask-clause-due c = asks_next c.args.device c.in-Ask.aim c.in-Ask.call (stage_of c.args.self.now) (stage_of c.open.new.self) (c.in-Ask.ensures).opens

pub returns-in-Rest-clause-due : goal.returns-in-Rest-clause-due
returns-in-Rest-clause-due c = rests_next c.args.device (stage_of c.args.self.now) (stage_of c.open.new.self) (c.in-Rest.ensures).opens
