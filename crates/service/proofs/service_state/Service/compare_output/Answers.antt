use Rattle.std.proofs.Common.{sym, subst, ◌∙◌, Some}
use Rattle.service.specs.Comparing.{ComparesOne}
use Rattle.service.proofs.Compared.{none_shown, shows_this}
use Rattle.service.proofs.service_state.Service.compare_output.Goals as goal

pub returns-in-Some-clause-compared : goal.returns-in-Some-clause-compared
returns-in-Some-clause-compared c = subst (λ this. ComparesOne this c.args.output c.args.self.now c.take_shown.new.self) (sym c.in-Some.is ∙ c.shown_in.ensures) c.take_shown.ensures.compared

pub returns-in_default-clause-compared : goal.returns-in_default-clause-compared
returns-in_default-clause-compared c = none_shown _ c.args.output c.args.self.now (sym c.shown_in.ensures ∙ c.in_default.is)

pub returns-in-Some-clause-stands : goal.returns-in-Some-clause-stands
returns-in-Some-clause-stands c = shows_this _ c.in-Some.shown c.args.output _ _ (sym c.shown_in.ensures ∙ c.in-Some.is) c.take_shown.ensures.stands

pub returns-in_default-clause-stands : goal.returns-in_default-clause-stands
returns-in_default-clause-stands c may has from before = before
