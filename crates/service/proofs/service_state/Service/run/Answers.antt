use Rattle.std.proofs.Common.{ap, ◌∙◌}
use Rattle.gateway.specs.event_core.Core.{Gateway}
use Rattle.service.specs.Counting.{came_to}
use Rattle.service.proofs.Courses.{right_scan}
use Rattle.service.proofs.service_state.Service.run.Goals as goal

pub invariant_of-self : goal.invariant_of-self
invariant_of-self c = record { rightful = right_scan _ _ c.args.self.now.side.now c.args.self.now.lines c.scan.ensures.scans c.args.self.now.rightful; right = c.args.self.now.right }

pub returns-clause-stands : goal.returns-clause-stands
returns-clause-stands c may has waits counted from before =
    c.count_scan.ensures.stands may (λ output became none. absurd none) (λ output none. absurd none) (ap may.scanned (c.of.ensures ∙ ap (λ (core : Gateway). came_to core.standing.last) c.core.ensures) ∙ counted) from (c.scan.ensures.stands may has waits from before)
