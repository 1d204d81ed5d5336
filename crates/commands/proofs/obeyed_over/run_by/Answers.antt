use Rattle.commands.proofs.ObeyLemmas.{runs_by}
use Rattle.commands.proofs.obeyed_over.run_by.Goals as goal

pub returns : goal.returns
returns g c =
    runs_by c.args.site.now c.args.program.now _ c.args.pace c.args.poller.now c.scans_noting-core.new.poller (g.W.Write.contents c.args.out.now) (g.W.Write.contents c.scans_noting-core.new.out) c.scans_noting-core.result.0 c.scans_noting-core.result.1
    c.scans_noting-core.ensures.texts c.scans_noting-core.ensures.accepted c.scans_noting-core.ensures.run c.scans_noting-core.ensures.refused
