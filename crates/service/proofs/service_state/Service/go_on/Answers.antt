use Rattle.service.proofs.service_state.Service.go_on.Goals as goal

pub returns-then-is_complete-clause-held : goal.returns-then-is_complete-clause-held
returns-then-is_complete-clause-held c = λ first within. c.finish.ensures.held first (c.ask_all.ensures.held first within)

pub returns-then-is_complete-clause-stands : goal.returns-then-is_complete-clause-stands
returns-then-is_complete-clause-stands c = λ first within may has from before. c.finish.ensures.stands first (c.ask_all.ensures.held first within) may has from (c.ask_all.ensures.stands first within may has from before)

pub returns-then-is_complete-clause-together : goal.returns-then-is_complete-clause-together
returns-then-is_complete-clause-together c = λ held first within before. c.finish.ensures.together held first (c.ask_all.ensures.held held within) (c.ask_all.ensures.together held first within before)
