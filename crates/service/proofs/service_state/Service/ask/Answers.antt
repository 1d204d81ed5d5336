use Rattle.std.proofs.Common.{rules}
use Rattle.service.proofs.Together.{all_together}
use Rattle.service.proofs.service_state.Service.ask.Goals as goal

pub returns-then-not-ask_next-clause-held : goal.returns-then-not-ask_next-clause-held
returns-then-not-ask_next-clause-held c = λ first within. c.ask_next.ensures.held first (c.loop.invariant.4 first within)

pub returns-then-not-ask_next-clause-stands : goal.returns-then-not-ask_next-clause-stands
returns-then-not-ask_next-clause-stands c = λ first within may has from before. c.ask_next.ensures.stands first (c.loop.invariant.4 first within) may has from (c.loop.invariant.1 first within may has from before)

pub loop-preserved : goal.loop-preserved
loop-preserved c =
    let so_far = c.loop.invariant in (
      search rules,
      (λ first within may has from before. c.ask_next.ensures.stands first (so_far.4 first within) may has from (so_far.1 first within may has from before)),
      search rules,
      search rules,
      (λ first within. c.ask_next.ensures.held first (so_far.4 first within)),
      (λ held first within before. c.ask_next.ensures.together held first (so_far.4 held within) (so_far.5 held first within before)),
    )

pub returns-then-not-ask_next-clause-together : goal.returns-then-not-ask_next-clause-together
returns-then-not-ask_next-clause-together c = λ held first within before.
    all_together held first c.ask_next.new.self.lines c.rest_until.new.self c.rest_until.ensures.links c.rest_until.ensures.lines (c.ask_next.ensures.together held first (c.loop.invariant.4 held within) (c.loop.invariant.5 held first within before))
