use Rattle.service.proofs.Forgetting.{forgotten_so}
use Rattle.service.proofs.cycle.Cycle.forget.Goals as goal

pub returns-clause-forgotten : goal.returns-clause-forgotten
returns-clause-forgotten c within = forgotten_so c.args.device c.args.self.now.core.value c.learn.new.self.core.value c.lose_blocks.new.self.core.value (c.learn.ensures.learned within) c.lose_blocks.ensures.lost
