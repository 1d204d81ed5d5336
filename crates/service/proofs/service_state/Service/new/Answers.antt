use Rattle.std.proofs.Common.{rules}
use Rattle.service.specs.Cycle.{stage_of}
use Rattle.service.proofs.Courses.{first_stage}
use Rattle.service.proofs.Opening.{is_new, round_of, searches_of}
use Rattle.service.proofs.service_state.Service.new.Goals as goal

pub new-requires-2 : goal.new-requires-2
new-requires-2 c =
    let opened = is_new _ _ _ _ c.in_ok-core.ensures.opened in
    let fits = round_of _ _ _ _ _ c.in_ok-core.ensures.opened c.in_ok-parts.ensures.round in
    let sought = searches_of _ _ _ _ _ c.in_ok-core.ensures.opened c.in_ok-parts.ensures.searches in
    search (rules, opened, fits, c.in_ok-parts.ensures.untold, sought)

pub returns-clause-first : goal.returns-clause-first
returns-clause-first c =
    let opened = is_new _ _ _ _ c.in_ok-core.ensures.opened in
    let fits = round_of _ _ _ _ _ c.in_ok-core.ensures.opened c.in_ok-parts.ensures.round in
    first_stage (stage_of c.in_ok-cycle.cycle) _ _ c.in_ok-cycle.ensures.core c.in_ok-cycle.ensures.round opened fits c.in_ok-parts.ensures.untold
