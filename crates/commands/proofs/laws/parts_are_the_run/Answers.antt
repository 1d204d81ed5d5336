use Rattle.commands.proofs.HeadlineLemmas.{parts_are_the_run}
use Rattle.commands.proofs.laws.parts_are_the_run.Goals as goal

pub returns : goal.returns
returns c = parts_are_the_run
