use Rattle.std.proofs.Common.{subst, sym}
use Rattle.service.specs.Losing.{LostByFate}
use Rattle.service.specs.ReadBack.{IsShownAt}
use Rattle.service.specs.declared.read_back.Shown.TheVariants as shown
use Rattle.service.proofs.Having.{none_more, says_none, tells_by}
use Rattle.service.specs.Identity.{IsSaidAt, SaysMoreBy}
use Rattle.service.proofs.Together.{none_taken}
use Rattle.service.specs.Having.{HasOrTook, taken_at}
use Rattle.service.specs.Together.{AllGoWith}
use Rattle.service.proofs.service_state.Service.settle_asked.Goals as goal

pub returns-in-Lost-clause-held : goal.returns-in-Lost-clause-held
returns-in-Lost-clause-held c = none_more _ _ _ c.lose_stream.ensures.held

pub returns-in-Lost-clause-stands : goal.returns-in-Lost-clause-stands
returns-in-Lost-clause-stands c may lost has shows =
    tells_by _ _ _ _ _ _ c.lose_stream.ensures.stands may
    (λ device why is. lost device why (subst (λ f. LostByFate c.args.self.now.lines.links.stations.items c.args.link c.args.asked f device why) (sym c.in-Lost.is) is)) has

pub returns-in-Lost-clause-anew : goal.returns-in-Lost-clause-anew
returns-in-Lost-clause-anew c output difference shows compares is = subst (λ f. IsShownAt c.args.self.now.cycle.core.value.site.wants c.args.self.now.held c.args.asked f output (shown.Other difference)) c.in-Lost.is shows

pub returns-in-Lost-clause-says : goal.returns-in-Lost-clause-says
returns-in-Lost-clause-says c = says_none _ _ _ c.lose_stream.ensures.held

pub returns-in-Lost-clause-differing : goal.returns-in-Lost-clause-differing
returns-in-Lost-clause-differing c output difference shows compares = absurd (subst (λ f. IsShownAt c.args.self.now.cycle.core.value.site.wants c.args.self.now.held c.args.asked f output (shown.Other difference)) c.in-Lost.is shows)

pub returns-in-Told-clause-says : goal.returns-in-Told-clause-says
returns-in-Told-clause-says c = subst (λ f. SaysMoreBy (IsSaidAt f c.args.asked) c.args.self.now.held.identities c.settle_told.new.self.held.identities) (sym c.in-Told.is) c.settle_told.ensures.says

pub returns-in-Lost-clause-together : goal.returns-in-Lost-clause-together
returns-in-Lost-clause-together c = none_taken _ c.args.self.now c.lose_stream.new.self c.lose_stream.ensures.together

pub returns-in-Told-clause-together : goal.returns-in-Told-clause-together
returns-in-Told-clause-together c = subst (λ f. AllGoWith c.args.self.now.held.companions.items (HasOrTook (taken_at f c.args.asked c.args.self.now.side.now) c.args.self.now.held) c.args.self.now.lines.lines.items c.settle_told.new.self.lines.links.numbers.items c.settle_told.new.self.lines.lines.items) (sym c.in-Told.is) c.settle_told.ensures.together
