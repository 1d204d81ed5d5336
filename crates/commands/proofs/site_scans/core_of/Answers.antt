use Rattle.std.proofs.Common.{subst}
use Rattle.commands.specs.Accepted.{Gives}
use Rattle.commands.proofs.AcceptedLemmas.{core_accepted, left_searched}
use Rattle.commands.proofs.site_scans.core_of.Goals as goal

pub returns-in-Ok-Ok-clause-starts : goal.returns-in-Ok-Ok-clause-starts
returns-in-Ok-Ok-clause-starts g c = core_accepted _ c.args.site.now c.args.program.now c.args.poller.now c.opened.new.poller c.in-Ok-Ok.given c.opened.result (subst (Gives c.args.site.now c.args.program.now _) c.in-Ok-Ok.field-0-is c.in-Ok-Ok.ensures) c.opened.ensures.opens

pub returns-in-Ok-Ok-clause-left : goal.returns-in-Ok-Ok-clause-left
returns-in-Ok-Ok-clause-left g c = left_searched _ c.args.site.now c.args.program.now c.args.poller.now c.opened.new.poller c.in-Ok-Ok.given c.opened.result (subst (Gives c.args.site.now c.args.program.now _) c.in-Ok-Ok.field-0-is c.in-Ok-Ok.ensures) c.opened.ensures.left
