use Rattle.service_parts.specs.Frames.{ComesUp}
use Rattle.service.proofs.Carried.{goes_from, not_both}
use Rattle.service.proofs.Together.{cut_together}
use Rattle.service.proofs.service_state.Service.link_up.Goals as goal

pub returns-then-come_up-clause-anew : goal.returns-then-come_up-clause-anew
returns-then-come_up-clause-anew c number line numbered within at =
    goes_from (ComesUp line) c.args.link c.args.self.now c.begin_anew.new.self c.come_up.new.self.lines.items (c.come_up.ensures.anew c.if-come_up.true line at) (c.begin_anew.ensures.lines c.args.link)

pub returns-else-come_up-clause-anew : goal.returns-else-come_up-clause-anew
returns-else-come_up-clause-anew c number line numbered within at = not_both (c.come_up.ensures.next number numbered within).0 c.if-come_up.false

pub returns-then-come_up-clause-stands : goal.returns-then-come_up-clause-stands
returns-then-come_up-clause-stands c = λ first within may has from before. c.begin_anew.ensures.stands first within may has from (c.turn_to.ensures.stands may from before)

pub returns-then-come_up-clause-together : goal.returns-then-come_up-clause-together
returns-then-come_up-clause-together c = λ held first within before. c.begin_anew.ensures.together held first within
    (cut_together held first c.args.self.now.lines c.come_up.new.self c.args.link c.come_up.ensures.numbers c.come_up.ensures.others (λ line there. let (cut, is, up) = c.come_up.ensures.anew c.if-come_up.true line there in (cut, is, up.cut.none)) before)
