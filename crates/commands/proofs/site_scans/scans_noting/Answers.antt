use Rattle.std.proofs.Common.{inl, inr, refl, subst}
use Rattle.commands.specs.Report.{no_memory_line}
use Rattle.commands.specs.Opening.{StartsCore}
use Rattle.commands.specs.Told.{refused_with}
use Rattle.commands.proofs.WholeLemmas.{has_run}
use Rattle.commands.proofs.site_scans.scans_noting.Goals as goal

pub returns-in-Ok-Ok-clause-accepted : goal.returns-in-Ok-Ok-clause-accepted
returns-in-Ok-Ok-clause-accepted g c =
    let done = has_run c.args.site.now c.args.program.now _ c.args.pace c.args.poller.now c.core_of.new.poller c.scan_times-status.new.poller (g.W.Write.contents c.args.out.now) (g.W.Write.contents c.scan_times-status.new.out)
    c.in-Ok-Ok.core c.scan_times-status.new.core c.scan_times-status.result (subst (StartsCore c.args.site.now c.args.program.now _ c.args.poller.now c.core_of.new.poller) c.in-Ok-Ok.field-0-is c.in-Ok-Ok.ensures.starts) c.scan_times-status.ensures in
    done.accepted

pub returns-in-Ok-Ok-clause-texts : goal.returns-in-Ok-Ok-clause-texts
returns-in-Ok-Ok-clause-texts g c =
    let done = has_run c.args.site.now c.args.program.now _ c.args.pace c.args.poller.now c.core_of.new.poller c.scan_times-status.new.poller (g.W.Write.contents c.args.out.now) (g.W.Write.contents c.scan_times-status.new.out)
    c.in-Ok-Ok.core c.scan_times-status.new.core c.scan_times-status.result (subst (StartsCore c.args.site.now c.args.program.now _ c.args.poller.now c.core_of.new.poller) c.in-Ok-Ok.field-0-is c.in-Ok-Ok.ensures.starts) c.scan_times-status.ensures in
    done.texts

pub returns-in-Ok-Ok-clause-run : goal.returns-in-Ok-Ok-clause-run
returns-in-Ok-Ok-clause-run g c =
    let done = has_run c.args.site.now c.args.program.now _ c.args.pace c.args.poller.now c.core_of.new.poller c.scan_times-status.new.poller (g.W.Write.contents c.args.out.now) (g.W.Write.contents c.scan_times-status.new.out)
    c.in-Ok-Ok.core c.scan_times-status.new.core c.scan_times-status.result (subst (StartsCore c.args.site.now c.args.program.now _ c.args.poller.now c.core_of.new.poller) c.in-Ok-Ok.field-0-is c.in-Ok-Ok.ensures.starts) c.scan_times-status.ensures in
    done.run

pub returns-in-Err-clause-refused : goal.returns-in-Err-clause-refused
returns-in-Err-clause-refused g c = (refused_with no_memory_line, inr (c.in-Err.ensures.left, refl), c.tell_no_memory.ensures)

pub returns-in-Ok-Err-clause-refused : goal.returns-in-Ok-Err-clause-refused
returns-in-Ok-Err-clause-refused g c =
    (c.in-Ok-Err.outcome, inl (subst (StartsCore c.args.site.now c.args.program.now _ c.args.poller.now c.core_of.new.poller) c.in-Ok-Err.field-0-is c.in-Ok-Err.ensures.starts), c.tell-status.ensures)
