use Rattle.std.proofs.Common.{sym, ◌∙◌}
use Rattle.service.specs.Having.{taken_by}
use Rattle.service.specs.declared.read_back.Shown.TheVariants as shown
use Rattle.service.proofs.Carried.{not_both}
use Rattle.service.proofs.Compared.{shown_answers}
use Rattle.service.proofs.Having.{is_by_answer, none_more, says_none, tells_by}
use Rattle.service.proofs.Together.{none_taken}
use Rattle.service.proofs.service_state.Service.settle_told.Goals as goal

pub returns-then-is_answer-clause-stands : goal.returns-then-is_answer-clause-stands
returns-then-is_answer-clause-stands c may lost has shows =
    c.take_answer.ensures.stands may (λ output became is. has output became (is_by_answer (taken_by c.args.outcome c.args.asked c.args.self.now.side.now) c.args.outcome c.args.asked c.args.self.now.held (sym c.is_answer.ensures ∙ c.if-is_answer.true) output became is)) shows

pub returns-else-is_answer-clause-held : goal.returns-else-is_answer-clause-held
returns-else-is_answer-clause-held c = none_more _ _ _ c.lose_answer.ensures.held

pub returns-else-is_answer-clause-stands : goal.returns-else-is_answer-clause-stands
returns-else-is_answer-clause-stands c may lost has shows =
    tells_by _ _ _ _ _ _ c.lose_answer.ensures.stands may (λ device why is. lost device why (sym c.is_answer.ensures ∙ c.if-is_answer.false, (is.0, is.1 ∙ c.loss_by.ensures))) has

pub returns-else-is_answer-clause-anew : goal.returns-else-is_answer-clause-anew
returns-else-is_answer-clause-anew c output difference shows compares is = not_both (shown_answers c.args.self.now.cycle.core.value.site.wants c.args.self.now.held c.args.asked c.args.outcome output (shown.Other difference) shows) (sym c.is_answer.ensures ∙ c.if-is_answer.false)

pub returns-else-is_answer-clause-says : goal.returns-else-is_answer-clause-says
returns-else-is_answer-clause-says c = says_none _ _ _ c.lose_answer.ensures.held

pub returns-else-is_answer-clause-differing : goal.returns-else-is_answer-clause-differing
returns-else-is_answer-clause-differing c output difference shows compares = not_both (shown_answers c.args.self.now.cycle.core.value.site.wants c.args.self.now.held c.args.asked c.args.outcome output (shown.Other difference) shows) (sym c.is_answer.ensures ∙ c.if-is_answer.false)

pub returns-else-is_answer-clause-together : goal.returns-else-is_answer-clause-together
returns-else-is_answer-clause-together c = none_taken _ c.args.self.now c.lose_answer.new.self c.lose_answer.ensures.together
