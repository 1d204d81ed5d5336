use Rattle.service.proofs.service_state.Service.ask_in_turn.Goals as goal

pub returns-clause-stands : goal.returns-clause-stands
returns-clause-stands c = λ first within may has from before. c.turned.ensures.stands may from (c.ask_device.ensures.stands first within may has from before)
