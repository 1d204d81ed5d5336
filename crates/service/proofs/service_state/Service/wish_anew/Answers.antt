use Rattle.service.proofs.service_state.Service.wish_anew.Goals as goal

pub returns-clause-held : goal.returns-clause-held
returns-clause-held c = λ first within. c.wish_of_search.ensures.held first (c.seek_anew.ensures.held first within)

pub returns-clause-together : goal.returns-clause-together
returns-clause-together c = λ held first within before. c.wish_of_search.ensures.together held first (c.seek_anew.ensures.held held within) (c.seek_anew.ensures.together held first within before)
