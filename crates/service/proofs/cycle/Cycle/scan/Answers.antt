use Rattle.std.proofs.Common.{◌∙◌, length}
use Rattle.gateway.specs.declared.event_core.event.Event.TheVariants as event
use Rattle.gateway.specs.declared.event_core.event.Answer.TheVariants as answer
use Rattle.service.specs.Cycle.{stage_of}
use Rattle.service.specs.Rounds.{since}
use Rattle.service.specs.Stages.{Scans}
use Rattle.service.proofs.Courses.{reached_scan, round_for, sought_for, taken_site, takes_from}
use Rattle.service.proofs.LastTold.{round_when_scanned}
use Rattle.service.proofs.cycle.Cycle.scan.Goals as goal

pub invariant_of-self-clause-reached : goal.invariant_of-self-clause-reached
invariant_of-self-clause-reached c =
    let ran = c.scan.ensures.scanned in
    let scans : Scans c.args.now (stage_of c.args.self.now) (record { core = c.scan.new.core; round = c.scan.new.self }) = record {
      recent = c.requires.recent;
      waited = ran.waited;
      waits = takes_from _ _ (event.Time (since c.args.self.now.round.at c.args.now)) _ c.deref_mut.ensures.value (answer.None, ran.waits);
      runs = (answer.Writes (length (ran.waited).site.outs), ran.runs);
      planned = c.scan.ensures.planned;
      same = c.scan.ensures.same;
    } in
    reached_scan _ _ c.args.now c.args.self.now.reached scans

pub returns : goal.returns
returns c =
    let ran = c.scan.ensures.scanned in
    record {
      scans = record {
        recent = c.requires.recent;
        waited = ran.waited;
        waits = takes_from _ _ (event.Time (since c.args.self.now.round.at c.args.now)) _ c.deref_mut.ensures.value (answer.None, ran.waits);
        runs = (answer.Writes (length (ran.waited).site.outs), ran.runs);
        planned = c.scan.ensures.planned;
        same = c.scan.ensures.same;
      };
      time = c.scan.ensures.time;
      stands = c.scan.ensures.stands;
    }

pub invariant_of-self-clause-sought : goal.invariant_of-self-clause-sought
invariant_of-self-clause-sought c =
    let ran = c.scan.ensures.scanned in
    let wait = event.Time (since c.args.self.now.round.at c.args.now) in
    let waits = takes_from c.args.self.now.core.value _ wait ran.waited c.deref_mut.ensures.value (answer.None, ran.waits) in
    let site = taken_site event.Scan ran.waited c.scan.new.core (answer.Writes (length (ran.waited).site.outs), ran.runs) ∙ taken_site wait c.args.self.now.core.value ran.waited waits in
    sought_for c.args.self.now.core.value c.scan.new.core c.args.self.now.searches.items site c.args.self.now.sought

pub invariant_of-self-clause-fits : goal.invariant_of-self-clause-fits
invariant_of-self-clause-fits c =
    let ran = c.scan.ensures.scanned in
    let wait = event.Time (since c.args.self.now.round.at c.args.now) in
    let waits = takes_from c.args.self.now.core.value _ wait ran.waited c.deref_mut.ensures.value (answer.None, ran.waits) in
    let site = taken_site event.Scan ran.waited c.scan.new.core (answer.Writes (length (ran.waited).site.outs), ran.runs) ∙ taken_site wait c.args.self.now.core.value ran.waited waits in
    round_for c.args.self.now.core.value c.scan.new.core c.scan.new.self site (round_when_scanned c.args.self.now.core.value.site c.args.self.now.round c.scan.new.self c.args.now c.scan.ensures.same c.scan.ensures.sized c.args.self.now.fits)
