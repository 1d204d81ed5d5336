use Rattle.verifier.proofs.Promised.{fit_facts, never_go_wrong}
use Rattle.verifier.proofs.laws.accepted_keep_promises.Goals as goal

pub returns : goal.returns
returns c = record { safe = never_go_wrong; fits = fit_facts }
