use Rattle.std.proofs.Common.{◌≡◌, rules, subst}
use Rattle.gateway.specs.event_core.Control.{IsPlanned, steps_of}
use Rattle.gateway.specs.event_core.Core.{Gateway}
use Rattle.gateway.specs.event_core.Driving.{TakesEvent}
use Rattle.gateway.specs.poller.Cycle.{Scans, StopsScan}
use Rattle.gateway.specs.poller.Telling.{scan_line}
use Rattle.commands.specs.Accepted.{most_deferred}
use Rattle.commands.proofs.ScanLemmas.{printed_by, unprinted_by, unsaid_by, unlinked_by}
use Rattle.commands.proofs.site_scans.scan_once.Goals as goal

pub returns-in-Ok-told-clause-printed : goal.returns-in-Ok-told-clause-printed
returns-in-Ok-told-clause-printed g c = λ well first asks.
    let line : c.as_bytes.result.now ≡ scan_line c.args.k c.in-Ok.report = search rules in
    let scan = subst (λ (x : Gateway). Scans (TakesEvent most_deferred) IsPlanned steps_of x.site x.maps c.args.poller.now x c.run_scan.new.poller c.run_scan.new.core c.in-Ok.report) c.wait.ensures (c.in-Ok.ensures.scanned c.requires) in
    printed_by c.args.pace c.args.k c.args.poller.now first c.args.core.now c.run_scan.new.poller c.run_scan.new.core c.in-Ok.report (g.W.Write.contents c.args.out.now) (g.W.Write.contents c.write_lines.new.out) c.as_bytes.result.now c.write_lines.result
    asks scan line c.write_lines.ensures well

pub returns-in-Ok-told-clause-last : goal.returns-in-Ok-told-clause-last
returns-in-Ok-told-clause-last g c = λ bad first asks.
    let line : c.as_bytes.result.now ≡ scan_line c.args.k c.in-Ok.report = search rules in
    let scan = subst (λ (x : Gateway). Scans (TakesEvent most_deferred) IsPlanned steps_of x.site x.maps c.args.poller.now x c.run_scan.new.poller c.run_scan.new.core c.in-Ok.report) c.wait.ensures (c.in-Ok.ensures.scanned c.requires) in
    unprinted_by c.args.pace c.args.k c.args.poller.now first c.args.core.now c.run_scan.new.poller c.run_scan.new.core c.in-Ok.report (g.W.Write.contents c.args.out.now) (g.W.Write.contents c.write_lines.new.out) c.as_bytes.result.now c.write_lines.result
    asks scan line c.write_lines.ensures bad

pub returns-in-Err-told-clause-last : goal.returns-in-Err-told-clause-last
returns-in-Err-told-clause-last g c = λ bad first asks.
    let scan = subst (λ (x : Gateway). Scans (TakesEvent most_deferred) IsPlanned steps_of x.site x.maps c.args.poller.now x c.run_scan.new.poller c.run_scan.new.core c.in-Ok.report) c.wait.ensures (c.in-Ok.ensures.scanned c.requires) in
    unsaid_by c.args.pace c.args.k c.args.poller.now first c.args.core.now c.run_scan.new.poller c.run_scan.new.core c.in-Ok.report (g.W.Write.contents c.args.out.now) (g.W.Write.contents c.tell_no_memory.new.out) c.tell_no_memory.result
    asks scan c.tell_no_memory.ensures

pub returns-in-Err-clause-last : goal.returns-in-Err-clause-last
returns-in-Err-clause-last g c = λ bad first asks.
    let stop = subst (λ (x : Gateway). StopsScan (TakesEvent most_deferred) IsPlanned x.site x.maps c.args.poller.now x c.in-Err.fault c.run_scan.new.poller c.run_scan.new.core) c.wait.ensures (c.in-Err.ensures.stopped c.requires) in
    unlinked_by c.args.pace c.args.k c.args.poller.now first c.args.core.now c.in-Err.fault c.run_scan.new.poller c.run_scan.new.core (g.W.Write.contents c.args.out.now) (g.W.Write.contents c.tell_unlinked.new.out) c.tell_unlinked.result
    asks stop c.tell_unlinked.ensures
