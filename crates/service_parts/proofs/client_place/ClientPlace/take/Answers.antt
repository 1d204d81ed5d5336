use Rattle.std.proofs.Common.{refl}
use Rattle.service_parts.proofs.Heard.{hears_nothing}
use Rattle.service_parts.proofs.client_place.ClientPlace.take.Goals as goal

pub returns-then-self-clause-hears : goal.returns-then-self-clause-hears
returns-then-self-clause-hears g c heard = hears_nothing _ _ _ _ c.args.self.now refl
