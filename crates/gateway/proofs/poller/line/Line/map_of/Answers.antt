use Rattle.std.proofs.Common.{refl}
use Rattle.gateway.proofs.poller.line.Line.map_of.Goals as goal

pub returns-in-Ok-clause-found : goal.returns-in-Ok-clause-found
returns-in-Ok-clause-found g c =
    let s = c.in-Ok.ensures.found in
    rw c.ok.ensures.value (s.0, (c.in-Ok.found, s.1, refl), s.2)
