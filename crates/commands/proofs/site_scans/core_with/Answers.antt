use Rattle.commands.proofs.CoreLemmas.{makes_none}
use Rattle.commands.proofs.site_scans.core_with.Goals as goal

pub returns-in-Ok : goal.returns-in-Ok
returns-in-Ok c = (c.in-Ok.ensures.matched, c.in-Ok.ensures.opened)

pub returns-in-Err : goal.returns-in-Err
returns-in-Err c = makes_none c.args.site c.args.machine c.args.maps.items c.in-Err.fault c.unmade.result c.in-Err.ensures.foreign c.unmade.ensures
