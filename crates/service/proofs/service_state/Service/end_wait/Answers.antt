use Rattle.std.proofs.Common.{sym}
use Rattle.service.specs.Going.{tasks_of}
use Rattle.service_parts.proofs.Waited.{left_then, none_over}
use Rattle.service.proofs.Going.{goes_then}
use Rattle.service.proofs.Together.{at_together}
use Rattle.service.proofs.service_state.Service.end_wait.Goals as goal

pub returns-in-Some-clause-ended : goal.returns-in-Some-clause-ended
returns-in-Some-clause-ended c line there =
    let side = c.args.self.now.side in
    let time = c.give_up.ensures.rest.time.side in
    left_then side.now side.limits (λ most. most) (tasks_of c.args.self.now) (tasks_of c.args.self.now) (tasks_of c.give_up.new.self) c.args.self.now.lines.lines.items c.give_up_overdue.new.self.lines.items c.give_up.new.self.lines.lines.items c.args.link
    (c.give_up_overdue.ensures.lines side.limits c.args.link (tasks_of c.args.self.now))
    (goes_then c.give_up.new.self.side side (sym time.now) (sym time.limits) c.args.link _ _ _ _ (c.give_up.ensures.lines c.args.link))
    line there (none_over side.now _ c.give_up_overdue.ensures.ended)

pub returns-in_default-clause-ended : goal.returns-in_default-clause-ended
returns-in_default-clause-ended c line there = none_over c.args.self.now.side.now _ c.give_up_overdue.ensures.ended

pub returns-in-Some-clause-together : goal.returns-in-Some-clause-together
returns-in-Some-clause-together c = λ held first within before. c.give_up.ensures.together held first within
    (at_together held first c.args.self.now.lines c.give_up_overdue.new.self c.args.self.now.side.now c.give_up_overdue.ensures.links c.give_up_overdue.ensures.lines before)

pub returns-in_default-clause-together : goal.returns-in_default-clause-together
returns-in_default-clause-together c = λ held first within before. at_together held first c.args.self.now.lines c.give_up_overdue.new.self c.args.self.now.side.now c.give_up_overdue.ensures.links c.give_up_overdue.ensures.lines before
