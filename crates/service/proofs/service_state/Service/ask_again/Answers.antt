use Rattle.std.proofs.Common.{Some}
use Rattle.service.proofs.Going.{begun_go, reads_go}
use Rattle.service.proofs.service_state.Service.ask_again.Goals as goal

pub returns-in-Some-clause-lines : goal.returns-in-Some-clause-lines
returns-in-Some-clause-lines c =
    begun_go c.in-Some.wish.aim c.args.self.now c.wish_anew.new.self c.begin.new.self (reads_go (Some c.in-Some.wish) c.args.self.now c.wish_anew.new.self (c.in-Some.ensures).reads c.wish_anew.ensures.lines) c.begin.ensures.lines c.begin.ensures.rest

pub returns-in-Some-clause-held : goal.returns-in-Some-clause-held
returns-in-Some-clause-held c = λ first within. c.begin.ensures.no_more first (c.wish_anew.ensures.held first within)

pub returns-in-Some-clause-together : goal.returns-in-Some-clause-together
returns-in-Some-clause-together c = λ held first within before. c.begin.ensures.together held first (c.wish_anew.ensures.held held within) (c.wish_anew.ensures.together held first within before)
