use Rattle.std.proofs.Common.{rules, ◌≡◌, ◌==◌, true, false, None, Some, slice_get}
use Rattle.service.proofs.Forgetting.{block_goes, block_stays, none_left}
use Rattle.service.proofs.cycle.Cycle.lose_block.Goals as goal

pub returns-in_default-clause-lost : goal.returns-in_default-clause-lost
returns-in_default-clause-lost c before is =
    let past : slice_get c.args.self.now.core.value.site.wants c.args.i ≡ None = search rules in
    none_left c.args.device c.args.i c.args.self.now.core.value before is past

pub returns-then-want-device-clause-lost : goal.returns-then-want-device-clause-lost
returns-then-want-device-clause-lost c before is =
    let at : slice_get c.args.self.now.core.value.site.wants c.args.i ≡ Some c.in-Some.want = search rules in
    let own : (c.in-Some.want.device == c.args.device) ≡ true = search rules in
    block_goes c.args.device c.args.i c.args.self.now.core.value before is c.in-Some.want at own c.lose_want.new.self.core.value c.lose_want.ensures.lost

pub returns-else-want-device-clause-lost : goal.returns-else-want-device-clause-lost
returns-else-want-device-clause-lost c before is =
    let at : slice_get c.args.self.now.core.value.site.wants c.args.i ≡ Some c.in-Some.want = search rules in
    let other : (c.in-Some.want.device == c.args.device) ≡ false = search rules in
    block_stays c.args.device c.args.i c.args.self.now.core.value before is c.in-Some.want at other
