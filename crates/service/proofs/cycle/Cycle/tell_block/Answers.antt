use Rattle.std.proofs.Common.{rules, ◌≡◌, true, inr}
use Rattle.service_requests.specs.declared.request_end.RequestEnd.TheVariants.{Told}
use Rattle.service.specs.Cycle.{stage_of}
use Rattle.service.specs.Stages.{OwnStep, Tells}
use Rattle.service.proofs.Courses.{one_step, reached_own, round_for, sought_for}
use Rattle.service.proofs.LastTold.{round_when_told}
use Rattle.service.proofs.cycle.Cycle.tell_block.Goals as goal

pub invariant_of-self-clause-reached : goal.invariant_of-self-clause-reached
invariant_of-self-clause-reached c =
    let told : Tells c.args.i (Told c.args.outcome) true (stage_of c.args.self.now) (record { core = c.tell-2.new.core; round = c.tell.new.self }) = search rules in
    reached_own _ _ c.args.self.now.reached (one_step OwnStep _ _ (inr (c.args.i, c.args.outcome, told)))

pub invariant_of-self-clause-sought : goal.invariant_of-self-clause-sought
invariant_of-self-clause-sought c =
    let site : c.tell-2.new.core.site ≡ c.args.self.now.core.value.site = search rules in
    sought_for c.args.self.now.core.value c.tell-2.new.core c.args.self.now.searches.items site c.args.self.now.sought

pub invariant_of-self-clause-fits : goal.invariant_of-self-clause-fits
invariant_of-self-clause-fits c =
    let site : c.tell-2.new.core.site ≡ c.args.self.now.core.value.site = search rules in
    round_for c.args.self.now.core.value c.tell-2.new.core c.tell.new.self site (round_when_told c.args.self.now.core.value.site c.args.self.now.round c.tell.new.self c.args.i true c.tell.ensures c.args.self.now.fits)
