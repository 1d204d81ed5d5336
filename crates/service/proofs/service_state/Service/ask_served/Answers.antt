use Rattle.service.proofs.service_state.Service.ask_served.Goals as goal

pub returns-then-ask_device-2-clause-held : goal.returns-then-ask_device-2-clause-held
returns-then-ask_device-2-clause-held c = λ first within. c.ask_device-2.ensures.held first (c.ask_device.ensures.held first within)

pub returns-then-ask_device-2-clause-stands : goal.returns-then-ask_device-2-clause-stands
returns-then-ask_device-2-clause-stands c = λ first within may has from before. c.ask_device-2.ensures.stands first (c.ask_device.ensures.held first within) may has from (c.ask_device.ensures.stands first within may has from before)

pub returns-else-ask_device-2-clause-held : goal.returns-else-ask_device-2-clause-held
returns-else-ask_device-2-clause-held c = λ first within. c.ask_again.ensures.held first (c.ask_device-2.ensures.held first (c.ask_device.ensures.held first within))

pub returns-else-ask_device-2-clause-stands : goal.returns-else-ask_device-2-clause-stands
returns-else-ask_device-2-clause-stands c = λ first within may has from before.
    c.ask_again.ensures.stands may from (c.ask_device-2.ensures.stands first (c.ask_device.ensures.held first within) may has from (c.ask_device.ensures.stands first within may has from before))

pub returns-then-ask_device-2-clause-together : goal.returns-then-ask_device-2-clause-together
returns-then-ask_device-2-clause-together c = λ held first within before. c.ask_device-2.ensures.together held first (c.ask_device.ensures.held held within) (c.ask_device.ensures.together held first within before)

pub returns-else-ask_device-2-clause-together : goal.returns-else-ask_device-2-clause-together
returns-else-ask_device-2-clause-together c = λ held first within before. c.ask_again.ensures.together held first (c.ask_device-2.ensures.held held (c.ask_device.ensures.held held within)) (c.ask_device-2.ensures.together held first (c.ask_device.ensures.held held within) (c.ask_device.ensures.together held first within before))
