use Rattle.commands.proofs.StepLemmas.{waited_so}
use Rattle.commands.proofs.site_scans.wait.Goals as goal

pub returns : goal.returns
returns c = waited_so c.args.core.now c.step.new.self c.args.elapsed c.step.result c.step.ensures.same c.step.ensures.machine c.step.ensures.run
