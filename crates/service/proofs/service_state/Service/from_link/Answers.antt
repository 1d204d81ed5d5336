use Rattle.service.proofs.Carried.{heard_after}
use Rattle.service.proofs.service_state.Service.from_link.Goals as goal

pub returns-clause-hears : goal.returns-clause-hears
returns-clause-hears c line at = heard_after _ c.args.link line _ _ _ _ _ _ _ _ _ _ _ _ _ c.turn_to.ensures.stands (c.hear.ensures.hears line at)

pub returns-clause-stands : goal.returns-clause-stands
returns-clause-stands c = λ none first within may has from before. c.hear.ensures.stands none first within may has from (c.turn_to.ensures.stands may from before)

pub returns-clause-together : goal.returns-clause-together
returns-clause-together c = λ none held first within before. c.hear.ensures.together none held first within before
