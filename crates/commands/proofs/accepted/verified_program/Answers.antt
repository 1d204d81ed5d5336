use Rattle.commands.proofs.AcceptedLemmas.{verified_tree}
use Rattle.commands.proofs.accepted.verified_program.Goals as goal

pub returns-in-Ok : goal.returns-in-Ok
returns-in-Ok c = verified_tree c.args.site.now c.args.program c.in-Ok.image c.judged.result c.requires c.in-Ok.ensures.assembled c.judged.ensures
