use Rattle.verifier.proofs.Passing.{stood_set}
use Rattle.verifier.proofs.pass.taken.Goals as goal

pub returns-clause-left : goal.returns-clause-left
returns-clause-left g c = rw c.replace.ensures.after (stood_set g.F.FactDomain.stands c.args.pending.now c.args.at _)
