use Rattle.verifier.proofs.Knowing.{known_there}
use Rattle.verifier.proofs.known.known_over.Goals as goal

pub returns-in_ok-known_at-in-Ok-clause-known : goal.returns-in_ok-known_at-in-Ok-clause-known
returns-in_ok-known_at-in-Ok-clause-known c = rw (c.in_ok-known_at-in-Ok.ensures.known) (known_there c.args.context.now c.args.at c.requires.within)
