use Rattle.service.proofs.Together.{paired_within}
use Rattle.service.proofs.service_state.Service.begin.Goals as goal

pub returns-then-eq-clause-together : goal.returns-then-eq-clause-together
returns-then-eq-clause-together c = λ held first within before. c.start.ensures.together held first (λ number at. paired_within held c.args.self.now.held within number c.args.wish.aim (c.requires.paired number at)) before

pub returns-else-eq-clause-together : goal.returns-else-eq-clause-together
returns-else-eq-clause-together c = λ held first within before. c.start.ensures.together held first (λ number at. paired_within held c.args.self.now.held within number c.args.wish.aim (c.requires.paired number at)) before

pub returns-else-eq-clause-no_more : goal.returns-else-eq-clause-no_more
returns-else-eq-clause-no_more c = λ first within. c.start.ensures.no_more first (c.begin.ensures.no_more first within)
