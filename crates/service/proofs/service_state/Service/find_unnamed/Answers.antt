use Rattle.service.proofs.service_state.Service.find_unnamed.Goals as goal

pub returns-clause-held : goal.returns-clause-held
returns-clause-held c first within = c.find_another.ensures.held first (c.hear_nothing-is_new.ensures.no_more first within)

pub returns-clause-together : goal.returns-clause-together
returns-clause-together c = λ held first within before. c.find_another.ensures.together held first (c.hear_nothing-is_new.ensures.no_more held within) before
