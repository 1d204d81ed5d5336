use Rattle.commands.proofs.ScanLemmas.{SoFar}
use Rattle.commands.proofs.site_scans.scan_times.Given as goal

abbrev pub invariant-loop-k : goal.invariant-loop-k
invariant-loop-k g l = SoFar l.pace l.k l.initial.poller l.initial.core l.poller l.core (g.W.Write.contents l.initial.out) (g.W.Write.contents l.out)
