use Rattle.std.proofs.Common.{◌≡◌, subst, sym, ◌∙◌}
use Rattle.service_parts.specs.declared.connections.Connections.{Connections}
use Rattle.service_parts.specs.Frames.{IsLed}
use Rattle.service.specs.Counting.{came_to}
use Rattle.service.specs.Cycle.{stage_of}
use Rattle.service.specs.Going.{LinksGoByScan, tasks_of}
use Rattle.service.specs.Having.{WritesAt}
use Rattle.service.specs.Stages.{Scans, Stage}
use Rattle.service.proofs.Courses.{runs_once}
use Rattle.service.proofs.Going.{goes_then, scanned_goes}
use Rattle.service.proofs.Having.{writes_at}
use Rattle.service.proofs.Together.{all_together}
use Rattle.service.proofs.service_state.Service.scan.Goals as goal

pub returns-clause-runs : goal.returns-clause-runs
returns-clause-runs c =
    let now = c.expire.ensures.rest.time.side.now ∙ (c.note_devices.ensures.rest.time.side.now ∙ (c.plan_scan.ensures.time.now ∙ c.finish.ensures.rest.time.side.now)) in
    let end = c.go_on.new.self.side in
    let ran = c.go_on.ensures.rest.time.side in
    let expired_now = ran.now ∙ c.run.ensures.time.side.now in
    let expired_limits = ran.limits ∙ c.run.ensures.time.side.limits in
    let noted_now = expired_now ∙ c.expire.ensures.rest.time.side.now in
    let noted_limits = expired_limits ∙ c.expire.ensures.rest.time.side.limits in
    let finished_now = noted_now ∙ (c.note_devices.ensures.rest.time.side.now ∙ c.plan_scan.ensures.time.now) in
    let finished_limits = noted_limits ∙ (c.note_devices.ensures.rest.time.side.limits ∙ c.plan_scan.ensures.time.limits) in
    let after = writes_at c.run.new.self.cycle.core.value c.args.self.now.held c.run.new.self.held c.args.self.now.side c.expire.new.self.side c.run.new.self.side c.go_on.new.self.side
    (λ first within may has from led. c.expire.ensures.stands may from (c.note_devices.ensures.stands may from (c.plan_scan.ensures.stands may from (c.finish.ensures.stands first within may has from led)))) c.run.ensures.stands
    (λ first within. c.run.ensures.held first (c.expire.ensures.held first (c.note_devices.ensures.held first (c.finish.ensures.held first within)))) c.go_on.ensures.stands in
    let lines : LinksGoByScan c.run.new.self.cycle.round.writes c.args.self.now c.go_on.new.self = λ link most from led.
    let finished = goes_then c.finish.new.self.side end finished_now finished_limits link _ _ _ _ (c.finish.ensures.lines link) most from led in
    let noted = goes_then c.note_devices.new.self.side end noted_now noted_limits link _ _ _ _ (c.note_devices.ensures.lines link) most from finished in
    let expired = goes_then c.expire.new.self.side end expired_now expired_limits link _ _ _ _ (c.expire.ensures.lines link) most from noted in
    let still = subst (λ (x : Connections). ∥ IsLed end.now end.limits most from (tasks_of c.expire.new.self) x.lines.items link ∥₁) (sym c.run.ensures.lines) expired in
    let scanned = scanned_goes end.now end.limits _ _ _ link most from still in
    c.go_on.ensures.lines link _ from (c.stir_all.ensures.lines end.now end.limits link _ _ from scanned) in
    runs_once (λ (scanned : Stage). WritesAt scanned.core c.args.self.now.held c.args.self.now.side c.go_on.new.self.side × LinksGoByScan scanned.round.writes c.args.self.now c.go_on.new.self × (c.go_on.new.self.side.last_scan ≡ came_to scanned.core.standing.last)) c.args.self.now.side.now _ _ _ _ (λ from before. c.expire.ensures.goes from (c.note_devices.ensures.goes from (c.finish.ensures.goes from before)))
    (subst (λ n. Scans n (stage_of c.expire.new.self.cycle) (stage_of c.run.new.self.cycle)) now c.run.ensures.scans) (after, lines, c.go_on.ensures.rest.time.side.last ∙ c.run.ensures.time.side.last) c.go_on.ensures.goes

pub returns-clause-held : goal.returns-clause-held
returns-clause-held c = λ first within.
    c.go_on.ensures.held first (c.run.ensures.held first (c.expire.ensures.held first (c.note_devices.ensures.held first (c.finish.ensures.held first within))))

pub returns-clause-together : goal.returns-clause-together
returns-clause-together c = λ held first within before.
    let finished = c.finish.ensures.held held within in
    let noted = c.note_devices.ensures.held held finished in
    let expired = c.expire.ensures.held held noted in
    c.go_on.ensures.together held first (c.run.ensures.held held expired) (all_together held first c.run.new.self.lines c.stir_all.new.self c.stir_all.ensures.links c.stir_all.ensures.lines
    (c.run.ensures.together held first expired (c.expire.ensures.together held first noted (c.note_devices.ensures.together held first finished (c.finish.ensures.together held first within before)))))
