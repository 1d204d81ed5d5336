use Rattle.gateway.proofs.Ending.{same_end}
use Rattle.gateway.proofs.poller.polled.run_scan.Goals as goal

pub returns-clause-same : goal.returns-clause-same
returns-clause-same g c = same_end g.row.DEPTH _ _ _ c.args.core.now _ c.scan.new.core c.scan.result c.scan.ensures.scanned c.scan.ensures.stopped
