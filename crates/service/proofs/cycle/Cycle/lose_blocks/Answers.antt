use Rattle.std.proofs.Common.{rules, ◌≡◌, length}
use Rattle.service.proofs.Forgetting.{all_gone}
use Rattle.service.proofs.cycle.Cycle.lose_blocks.Goals as goal

pub returns-clause-lost : goal.returns-clause-lost
returns-clause-lost c =
    let all : c.loop-i.i ≡ length c.args.self.now.core.value.site.wants = search rules in
    all_gone c.args.device c.loop-i.i c.args.self.now.core.value c.loop-i.self.core.value all c.loop-i.invariant.1
