use Rattle.std.proofs.Common.{refl, ◌∙◌, ap}
use Rattle.gateway.specs.event_core.Core.{Gateway}
use Rattle.gateway.specs.declared.event_core.event.Event.TheVariants as event
use Rattle.service.specs.Cycle.{stage_of}
use Rattle.service.specs.Stages.{Asks}
use Rattle.service.proofs.Courses.{goes_asks, reached_clients, round_for, sought_for, takes_from}
use Rattle.service.proofs.cycle.Cycle.set.Goals as goal

pub invariant_of-self : goal.invariant_of-self
invariant_of-self c =
    let step = c.step.ensures in
    let same = c.deref_mut.ensures.value in
    let site = (step.same).site ∙ ap (λ (x : Gateway). x.site) same in
    let asks : Asks c.request_pdu.result (stage_of c.args.self.now) (record { core = c.step.new.self; round = c.args.self.now.round }) = record {
      told = takes_from _ _ (event.Client c.request_pdu.result) _ same (c.step.result, (32, ((step.run, step.same), step.machine)));
      round = refl;
    } in
    record {
      reached = reached_clients _ _ c.args.self.now.reached (goes_asks _ _ c.request_pdu.result asks);
      fits = round_for c.args.self.now.core.value c.step.new.self c.args.self.now.round site c.args.self.now.fits;
      sought = sought_for c.args.self.now.core.value c.step.new.self c.args.self.now.searches.items site c.args.self.now.sought;
    }

pub returns-clause-goes : goal.returns-clause-goes
returns-clause-goes c =
    let step = c.step.ensures in
    let asks : Asks c.request_pdu.result (stage_of c.args.self.now) (record { core = c.step.new.self; round = c.args.self.now.round }) = record {
      told = takes_from _ _ (event.Client c.request_pdu.result) _ c.deref_mut.ensures.value (c.step.result, (32, ((step.run, step.same), step.machine)));
      round = refl;
    } in
    goes_asks _ _ c.request_pdu.result asks
