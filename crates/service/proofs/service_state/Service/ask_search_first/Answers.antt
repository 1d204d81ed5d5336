use Rattle.service.proofs.service_state.Service.ask_search_first.Goals as goal

pub returns-else-ask_for-clause-held : goal.returns-else-ask_for-clause-held
returns-else-ask_for-clause-held c = λ first within. c.ask_for-else-ask_for.ensures.held first (c.ask_for.ensures.held first within)

pub returns-else-ask_for-clause-stands : goal.returns-else-ask_for-clause-stands
returns-else-ask_for-clause-stands c = λ first within may has from before. c.ask_for-else-ask_for.ensures.stands first (c.ask_for.ensures.held first within) may has from (c.ask_for.ensures.stands first within may has from before)

pub returns-else-ask_for-clause-together : goal.returns-else-ask_for-clause-together
returns-else-ask_for-clause-together c = λ held first within before. c.ask_for-else-ask_for.ensures.together held first (c.ask_for.ensures.held held within) (c.ask_for.ensures.together held first within before)
