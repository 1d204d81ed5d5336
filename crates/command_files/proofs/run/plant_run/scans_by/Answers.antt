use Rattle.std.proofs.Common.{map, string_bytes}
use Rattle.command_files.proofs.FaultLemmas.{scans_kept}
use Rattle.command_files.proofs.run.plant_run.scans_by.Goals as goal

pub returns-then-ended-eq-FAILED_LINK : goal.returns-then-ended-eq-FAILED_LINK
returns-then-ended-eq-FAILED_LINK g c =
    scans_kept c.args.run.now.notes.site.now c.args.run.now.notes.program.now (map string_bytes c.args.run.now.notes.defs.now) c.args.run.now.pace
    c.args.poller.now c.obey_over-ran.new.poller c.cause_of_link.new.poller (g.W.Write.contents c.args.out.now) (g.W.Write.contents c.obey_over-ran.new.out)
    c.obey_over-ran.result.core c.obey_over-ran.result.status c.obey_over-ran.ensures c.if-ended-eq-FAILED_LINK.true c.cause_of_link.ensures
