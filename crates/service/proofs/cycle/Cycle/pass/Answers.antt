use Rattle.std.proofs.Common.{refl, rules, ◌≡◌}
use Rattle.service.specs.Cycle.{stage_of}
use Rattle.service.specs.Stages.{Waits}
use Rattle.service.proofs.Courses.{reached_wait, sought_for}
use Rattle.service.proofs.Restored.{time_alone}
use Rattle.service.proofs.cycle.Cycle.pass.Goals as goal

pub invariant_of-self-clause-reached : goal.invariant_of-self-clause-reached
invariant_of-self-clause-reached c =
    let waits : Waits c.args.elapsed (stage_of c.args.self.now) (record { core = c.tell.new.core; round = c.args.self.now.round }) = search rules in
    reached_wait _ _ c.args.elapsed c.args.self.now.reached waits

pub returns : goal.returns
returns c =
    let waits : Waits c.args.elapsed (stage_of c.args.self.now) (record { core = c.tell.new.core; round = c.args.self.now.round }) = search rules in
    record {
      at = refl;
      passed = time_alone c.args.self.now.core.value c.tell.new.core c.args.elapsed waits.told;
      waits = waits;
    }

pub invariant_of-self-clause-sought : goal.invariant_of-self-clause-sought
invariant_of-self-clause-sought c =
    let site : c.tell.new.core.site ≡ c.args.self.now.core.value.site = search rules in
    sought_for c.args.self.now.core.value c.tell.new.core c.args.self.now.searches.items site c.args.self.now.sought
