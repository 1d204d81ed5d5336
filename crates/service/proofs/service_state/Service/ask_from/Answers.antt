use Rattle.service.proofs.service_state.Service.ask_from.Goals as goal

pub returns-else-ask_between-clause-held : goal.returns-else-ask_between-clause-held
returns-else-ask_between-clause-held c = λ first within. c.ask_between-else-ask_between.ensures.held first (c.ask_between.ensures.held first within)

pub returns-else-ask_between-clause-stands : goal.returns-else-ask_between-clause-stands
returns-else-ask_between-clause-stands c = λ first within may has from before. c.ask_between-else-ask_between.ensures.stands first (c.ask_between.ensures.held first within) may has from (c.ask_between.ensures.stands first within may has from before)

pub returns-else-ask_between-clause-together : goal.returns-else-ask_between-clause-together
returns-else-ask_between-clause-together c = λ held first within before. c.ask_between-else-ask_between.ensures.together held first (c.ask_between.ensures.held held within) (c.ask_between.ensures.together held first within before)
