use Rattle.commands.proofs.AcceptedLemmas.{by_models}
use Rattle.commands.proofs.accepted.accept.Goals as goal

pub returns-in-Ok : goal.returns-in-Ok
returns-in-Ok c = by_models c.in-Ok.models.items _ c.args.site.now c.args.program.now c.accept_over.result c.in-Ok.ensures.read c.accept_over.ensures
