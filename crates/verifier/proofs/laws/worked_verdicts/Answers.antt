use Rattle.verifier.proofs.Working as working
use Rattle.verifier.proofs.laws.worked_verdicts.Goals as goal

pub returns : goal.returns
returns c = working.worked_verdicts
