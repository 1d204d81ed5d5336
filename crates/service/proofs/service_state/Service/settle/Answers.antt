use Rattle.std.proofs.Common.{Some, subst, sym}
use Rattle.service.specs.declared.read_back.Shown.TheVariants as shown
use Rattle.service.proofs.Compared.{shown_of_none}
use Rattle.service.proofs.Courses.{own_of_rounds, own_of_settles}
use Rattle.service.proofs.Having.{none_more, says_none, writes_by}
use Rattle.service.proofs.Together.{none_taken}
use Rattle.service.specs.Having.{HasOrTook, taken_if}
use Rattle.service.specs.Together.{AllGoWith}
use Rattle.service.proofs.service_state.Service.settle.Goals as goal

pub returns-in-Some-clause-goes : goal.returns-in-Some-clause-goes
returns-in-Some-clause-goes c = own_of_settles c.args.fate c.in-Some.asked c.args.self.now.cycle c.settle_asked.new.self.cycle c.settle_asked.ensures.settles

pub returns-in-None-clause-goes : goal.returns-in-None-clause-goes
returns-in-None-clause-goes c = own_of_rounds _ _ c.go_on.ensures.goes

pub returns-in-None-clause-held : goal.returns-in-None-clause-held
returns-in-None-clause-held c = none_more _ _ _ c.go_on.ensures.held

pub returns-in-None-clause-stands : goal.returns-in-None-clause-stands
returns-in-None-clause-stands c may lost has shows = writes_by _ _ _ _ _ c.go_on.ensures.stands may has

pub returns-in-None-clause-anew : goal.returns-in-None-clause-anew
returns-in-None-clause-anew c output difference shows compares is = shown_of_none c.args.self.now.cycle.core.value.site.wants c.args.self.now.held c.args.asked (Some c.args.fate) output (shown.Other difference) c.in-None.is shows

pub returns-in-None-clause-says : goal.returns-in-None-clause-says
returns-in-None-clause-says c = says_none _ _ _ c.go_on.ensures.held

pub returns-in-None-clause-differing : goal.returns-in-None-clause-differing
returns-in-None-clause-differing c output difference shows compares = absurd (shown_of_none c.args.self.now.cycle.core.value.site.wants c.args.self.now.held c.args.asked (Some c.args.fate) output (shown.Other difference) c.in-None.is shows)

pub returns-in-None-clause-together : goal.returns-in-None-clause-together
returns-in-None-clause-together c = none_taken _ c.args.self.now c.go_on.new.self c.go_on.ensures.together

pub returns-in-Some-clause-together : goal.returns-in-Some-clause-together
returns-in-Some-clause-together c = subst (λ a. AllGoWith c.args.self.now.held.companions.items (HasOrTook (taken_if a (Some c.args.fate) c.args.self.now.side.now) c.args.self.now.held) c.args.self.now.lines.lines.items c.settle_asked.new.self.lines.links.numbers.items c.settle_asked.new.self.lines.lines.items) (sym c.in-Some.is) c.settle_asked.ensures.together
