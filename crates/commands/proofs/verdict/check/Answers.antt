use Rattle.commands.proofs.CheckLemmas.{prints_meant, prints_safe, prints_verdict}
use Rattle.commands.proofs.verdict.check.Goals as goal

pub returns-clause-accepted : goal.returns-clause-accepted
returns-clause-accepted g c = prints_verdict c.args.site.now c.args.program.now _ (g.W.Write.contents c.args.out.now) (g.W.Write.contents c.judge.new.out) c.judge.result.status c.judge.ensures.checks.told

pub returns-clause-safe : goal.returns-clause-safe
returns-clause-safe g c = prints_safe c.args.site.now c.args.program.now _ (g.W.Write.contents c.args.out.now) (g.W.Write.contents c.judge.new.out) c.judge.result.status c.judge.ensures.checks.told

pub returns-clause-means : goal.returns-clause-means
returns-clause-means g c = prints_meant c.args.site.now c.args.program.now _ (g.W.Write.contents c.args.out.now) (g.W.Write.contents c.judge.new.out) c.judge.result.status c.judge.ensures.checks.told
