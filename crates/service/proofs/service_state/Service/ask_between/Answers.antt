use Rattle.std.proofs.Common.{rules}
use Rattle.service.proofs.service_state.Service.ask_between.Goals as goal

pub returns-then-ask_at-clause-held : goal.returns-then-ask_at-clause-held
returns-then-ask_at-clause-held c = λ first within. c.ask_at.ensures.held first (c.loop-i.invariant.4 first within)

pub returns-then-ask_at-clause-stands : goal.returns-then-ask_at-clause-stands
returns-then-ask_at-clause-stands c = λ first within may has from before. c.ask_at.ensures.stands first (c.loop-i.invariant.4 first within) may has from (c.loop-i.invariant.1 first within may has from before)

pub loop-i-preserved : goal.loop-i-preserved
loop-i-preserved c =
    let so_far = c.loop-i.invariant in (
      search rules,
      (λ first within may has from before. c.ask_at.ensures.stands first (so_far.4 first within) may has from (so_far.1 first within may has from before)),
      search rules,
      search rules,
      (λ first within. c.ask_at.ensures.held first (so_far.4 first within)),
      (λ held first within before. c.ask_at.ensures.together held first (so_far.4 held within) (so_far.5 held first within before)),
    )

pub returns-then-ask_at-clause-together : goal.returns-then-ask_at-clause-together
returns-then-ask_at-clause-together c = λ held first within before. c.ask_at.ensures.together held first (c.loop-i.invariant.4 held within) (c.loop-i.invariant.5 held first within before)
