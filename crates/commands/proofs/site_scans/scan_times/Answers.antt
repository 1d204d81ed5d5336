use Rattle.std.proofs.Common.{◌≡◌, ◌≢◌, arith, rules}
use Rattle.commands.proofs.ScanLemmas.{done_all, done_before, one_more}
use Rattle.commands.proofs.site_scans.scan_times.Goals as goal

pub returns-then-status-ne0 : goal.returns-then-status-ne0
returns-then-status-ne0 g c =
    let bad : c.scan_once-status.result ≢ 0 = search rules in
    done_before c.args.pace c.loop-k.k c.args.poller.now c.args.core.now c.loop-k.poller c.loop-k.core c.scan_once-status.new.poller c.scan_once-status.new.core
    (g.W.Write.contents c.args.out.now) (g.W.Write.contents c.loop-k.out) (g.W.Write.contents c.scan_once-status.new.out) c.scan_once-status.result
    c.loop-k.invariant c.loop-k-test.true (c.scan_once-status.ensures.last bad c.loop-k.core c.ask.ensures)

pub loop-k-preserved : goal.loop-k-preserved
loop-k-preserved g c =
    let well : c.scan_once-status.result ≡ 0 = search rules in
    one_more c.args.pace c.loop-k.k c.args.poller.now c.args.core.now c.loop-k.poller c.loop-k.core c.scan_once-status.new.poller c.scan_once-status.new.core
    (g.W.Write.contents c.args.out.now) (g.W.Write.contents c.loop-k.out) (g.W.Write.contents c.scan_once-status.new.out) c.loop-k.invariant (c.scan_once-status.ensures.printed well c.loop-k.core c.ask.ensures)

pub returns : goal.returns
returns g c =
    done_all c.args.pace c.loop-k.k c.args.poller.now c.args.core.now c.loop-k.poller c.loop-k.core (g.W.Write.contents c.args.out.now) (g.W.Write.contents c.loop-k.out)
    c.loop-k.invariant (omega (arith, c.loop-k-test.false, c.loop-k.auto.k-end))
