use Rattle.service.proofs.service_state.Service.lose_answer.Goals as goal

pub returns-clause-held : goal.returns-clause-held
returns-clause-held c = λ first within. c.go_on.ensures.held first (c.miss.ensures.held first within)

pub returns-clause-stands : goal.returns-clause-stands
returns-clause-stands c = λ first within may lost has from before.
    c.go_on.ensures.stands first (c.miss.ensures.held first within) may has from (c.miss.ensures.stands may lost from (c.lose_write.ensures.stands may from before))

pub returns-clause-together : goal.returns-clause-together
returns-clause-together c = λ held first within before. c.go_on.ensures.together held first (c.miss.ensures.held held within) (c.miss.ensures.together held first within before)
