use Rattle.gateway.proofs.event_core.Core.answer.Goals as goal

pub returns-in-Read-clause-fits : goal.returns-in-Read-clause-fits
returns-in-Read-clause-fits g c = rw c.in-Read.is c.read.ensures.fits
