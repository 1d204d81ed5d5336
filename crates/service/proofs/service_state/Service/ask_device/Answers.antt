use Rattle.service.proofs.Going.{begun_go}
use Rattle.service.proofs.service_state.Service.ask_device.Goals as goal

pub returns-in-Some-clause-lines : goal.returns-in-Some-clause-lines
returns-in-Some-clause-lines c = begun_go c.in-Some.wish.aim c.args.self.now c.wish_of.new.self c.begin.new.self (c.in-Some.ensures).opens c.begin.ensures.lines c.begin.ensures.rest

pub returns-in-Some-clause-held : goal.returns-in-Some-clause-held
returns-in-Some-clause-held c = λ first within. c.begin.ensures.no_more first (c.wish_of.ensures.held first within)

pub returns-in-Some-clause-stands : goal.returns-in-Some-clause-stands
returns-in-Some-clause-stands c = λ first within may has from before. c.begin.ensures.stands may from (c.wish_of.ensures.stands first within may has from before)

pub returns-in-Some-clause-together : goal.returns-in-Some-clause-together
returns-in-Some-clause-together c = λ held first within before. c.begin.ensures.together held first (c.wish_of.ensures.held held within) (c.wish_of.ensures.together held first within before)
