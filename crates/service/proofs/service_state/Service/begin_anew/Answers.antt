use Rattle.service.proofs.service_state.Service.begin_anew.Goals as goal

pub returns-clause-held : goal.returns-clause-held
returns-clause-held c = λ first within. c.go_on.ensures.held first (c.forget_all.ensures.held first within)

pub returns-clause-stands : goal.returns-clause-stands
returns-clause-stands c = λ first within may has from before.
    c.go_on.ensures.stands first (c.forget_all.ensures.held first within) may has from (c.begin_link.ensures.stands may from (c.forget_all.ensures.stands may from before))

pub returns-clause-together : goal.returns-clause-together
returns-clause-together c = λ held first within before. c.go_on.ensures.together held first (c.forget_all.ensures.held held within) (c.forget_all.ensures.together held first within before)
