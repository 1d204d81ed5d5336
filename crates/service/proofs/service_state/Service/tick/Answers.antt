use Rattle.std.proofs.Common.{rules, ◌≡◌, ◌+◌, true, max, nat_le, ap, subst, ◌∙◌}
use Rattle.service_parts.specs.Frames.{due_at}
use Rattle.service_parts.specs.Overdue.{NoneIsLeft}
use Rattle.service.specs.declared.device_side.DeviceSide.{DeviceSide}
use Rattle.service.specs.Counting.{came_to}
use Rattle.service.specs.Cycle.{stage_of}
use Rattle.service.specs.Going.{LinksGoByScan}
use Rattle.service.specs.Having.{WritesAt}
use Rattle.service.specs.Losing.{LostByWait}
use Rattle.service.specs.Stages.{RunsOnce, Stage}
use Rattle.service.specs.Told.{LosesBy}
use Rattle.service.proofs.Courses.{runs_where}
use Rattle.service.proofs.Going.{goes_then, none_left}
use Rattle.service.proofs.Having.{tells_at}
use Rattle.service.proofs.service_state.Service.tick.Goals as goal

pub returns-then-is_due-clause-goes : goal.returns-then-is_due-clause-goes
returns-then-is_due-clause-goes c =
    let now = c.end_waits.ensures.rest.time.side.now ∙ ap (λ (x : DeviceSide). x.now) c.turn_to.ensures.now in
    let due : nat_le c.args.self.now.side.next_scan (max c.args.self.now.side.now c.args.now) ≡ true = search rules in
    let lost = subst (λ n. LosesBy (LostByWait c.args.self.now.lines.links.stations.items c.args.self.now.lines.lines.items n) c.turn_to.new.self c.end_waits.new.self.side) (ap (λ (x : DeviceSide). x.now) c.turn_to.ensures.now) c.end_waits.ensures.stands in
    runs_where _ _ _ _ _ _ _ due c.end_waits.ensures.goes (subst (λ n. RunsOnce (λ (scanned : Stage). WritesAt scanned.core c.end_waits.new.self.held c.end_waits.new.self.side c.scan.new.self.side × LinksGoByScan scanned.round.writes c.end_waits.new.self c.scan.new.self × (c.scan.new.self.side.last_scan ≡ came_to scanned.core.standing.last)) n (stage_of c.end_waits.new.self.cycle) (stage_of c.scan.new.self.cycle)) now c.scan.ensures.runs)
    (λ (b : Stage) after. (
      tells_at _ b.core c.args.self.now.held c.end_waits.new.self.held c.args.self.now.side c.end_waits.new.self.side c.scan.new.self.side (λ may has from led. lost may has from (c.turn_to.ensures.stands may from led)) c.end_waits.ensures.held after.0,
      λ link most from led. after.1 link most from (goes_then c.end_waits.new.self.side c.scan.new.self.side c.scan.ensures.time.now c.scan.ensures.time.limits link _ _ _ _ (c.end_waits.ensures.lines link) most from led),
      after.2,
    ))

pub returns-then-is_due-clause-ended : goal.returns-then-is_due-clause-ended
returns-then-is_due-clause-ended c =
    let turned = ap (λ (x : DeviceSide). x.now) c.turn_to.ensures.now in
    none_left _ (λ most output. most output + due_at output c.scan.ensures.runs.scanned.round.writes) c.args.self.now c.end_waits.new.self c.scan.new.self c.scan.ensures.time.now c.scan.ensures.time.limits (c.end_waits.ensures.rest.time.side.now ∙ turned)
    (subst (λ n. NoneIsLeft n c.args.self.now.lines.lines.items c.end_waits.new.self.lines.lines.items) turned c.end_waits.ensures.ended) c.end_waits.ensures.lines c.scan.ensures.runs.after.1

pub returns-else-is_due-clause-ended : goal.returns-else-is_due-clause-ended
returns-else-is_due-clause-ended c =
    let turned = ap (λ (x : DeviceSide). x.now) c.turn_to.ensures.now in
    none_left _ (λ most. most) c.args.self.now c.end_waits.new.self c.go_on.new.self c.go_on.ensures.rest.time.side.now c.go_on.ensures.rest.time.side.limits (c.end_waits.ensures.rest.time.side.now ∙ turned)
    (subst (λ n. NoneIsLeft n c.args.self.now.lines.lines.items c.end_waits.new.self.lines.lines.items) turned c.end_waits.ensures.ended) c.end_waits.ensures.lines c.go_on.ensures.lines

pub returns-then-is_due-clause-held : goal.returns-then-is_due-clause-held
returns-then-is_due-clause-held c = λ first within. c.scan.ensures.held first (c.end_waits.ensures.held first within)

pub returns-else-is_due-clause-held : goal.returns-else-is_due-clause-held
returns-else-is_due-clause-held c = λ first within. c.go_on.ensures.held first (c.end_waits.ensures.held first within)

pub returns-else-is_due-clause-stands : goal.returns-else-is_due-clause-stands
returns-else-is_due-clause-stands c =
    let lost = subst (λ n. LosesBy (LostByWait c.args.self.now.lines.links.stations.items c.args.self.now.lines.lines.items n) c.turn_to.new.self c.end_waits.new.self.side) (ap (λ (x : DeviceSide). x.now) c.turn_to.ensures.now) c.end_waits.ensures.stands in
    λ rested first within may why has from before. c.go_on.ensures.stands first (c.end_waits.ensures.held first within) may has from (lost may why from (c.turn_to.ensures.stands may from before))

pub returns-then-is_due-clause-together : goal.returns-then-is_due-clause-together
returns-then-is_due-clause-together c = λ held first within before. c.scan.ensures.together held first (c.end_waits.ensures.held held within) (c.end_waits.ensures.together held first within before)

pub returns-else-is_due-clause-together : goal.returns-else-is_due-clause-together
returns-else-is_due-clause-together c = λ held first within before. c.go_on.ensures.together held first (c.end_waits.ensures.held held within) (c.end_waits.ensures.together held first within before)
