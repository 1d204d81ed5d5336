use Rattle.std.proofs.Common.{rules, ◌≤◌, ◌<◌, length}
use Rattle.service.proofs.Having.{forgets_no_more, forgot_all, forgot_further, forgot_none}
use Rattle.service.proofs.held_writes.HeldWrites.forget.Goals as goal

pub loop-i-init : goal.loop-i-init
loop-i-init c = forgot_none c.args.device c.args.self.now

pub loop-i-preserved : goal.loop-i-preserved
loop-i-preserved c =
    let within : c.loop-i.i < length c.loop-i.self.writes.items = search rules in
    forgot_further c.args.device c.loop-i.i c.args.self.now c.loop-i.self c.forget_at.new.self c.loop-i.invariant within c.forget_at.ensures.len c.forget_at.ensures.companions c.forget_at.ensures.forgotten c.forget_at.ensures.identities

pub returns-clause-forgotten : goal.returns-clause-forgotten
returns-clause-forgotten c =
    let all : length c.loop-i.self.writes.items ≤ c.loop-i.i = search rules in
    forgot_all c.args.device c.loop-i.i c.args.self.now c.loop-i.self all c.loop-i.invariant

pub returns-clause-no_more : goal.returns-clause-no_more
returns-clause-no_more c =
    let all : length c.loop-i.self.writes.items ≤ c.loop-i.i = search rules in
    forgets_no_more c.args.device c.args.self.now c.loop-i.self (forgot_all c.args.device c.loop-i.i c.args.self.now c.loop-i.self all c.loop-i.invariant) c.loop-i.invariant.companions c.loop-i.invariant.said
