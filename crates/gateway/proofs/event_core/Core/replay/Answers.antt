use Rattle.std.proofs.Common.{◌∙◌}
use Rattle.std.proofs.lemmas.List.{length-set}
use Rattle.gateway.proofs.Parts.{steps_same, same_then}
use Rattle.gateway.proofs.Replaying.{runs_more, runs_whole}
use Rattle.gateway.proofs.event_core.Core.replay.Goals as goal

pub loop-i-preserved : goal.loop-i-preserved
loop-i-preserved g c =
    let so_far = c.loop-i.invariant in (
      runs_more c.args.self.now c.args.events.now c.loop-i.i c.loop-i.answers c.loop-i.self.standing so_far.0 c.index-events-i.result c.advance.result c.advance.new.self.standing c.loop-i-test.true c.index-events-i.is so_far.2
          (steps_same c.args.self.now c.loop-i.self c.index-events-i.result c.advance.result c.advance.new.self.standing so_far.1 c.advance.ensures.run),
      same_then c.args.self.now c.loop-i.self c.advance.new.self so_far.1 c.advance.ensures.same,
      length-set c.loop-i.answers _ _ ∙ so_far.2,
    )

pub returns-clause-run : goal.returns-clause-run
returns-clause-run g c =
    let so_far = c.loop-i.invariant in
    runs_whole c.args.self.now c.args.events.now c.loop-i.i c.loop-i.answers c.loop-i.self.standing so_far.0 c.loop-i-test.false so_far.2
