use Rattle.std.proofs.Common.{sym, refl, ◌∙◌, false, None, Some}
use Rattle.model_defs.proofs.Entries.{sunssf_told, sunssf_from, factor_found, factor_name, factor_kind}
use Rattle.model_defs.proofs.placing.place_factor.Goals as goal

pub returns-in_err-number-in-Named-clause-found : goal.returns-in_err-number-in-Named-clause-found
returns-in_err-number-in-Named-clause-found c =
    rw c.from_residual.ensures (factor_found c.args.points.now.entries c.args.factor c.in-Named.name None false c.in-Named.is c.in_err-number-in-Named.ensures.value refl)

pub returns-then-eq-clause-found : goal.returns-then-eq-clause-found
returns-then-eq-clause-found c =
    factor_found c.args.points.now.entries c.args.factor c.in-Named.name (Some c.in_ok-number-in-Named.description.now) _ c.in-Named.is c.in_ok-number-in-Named.ensures.value
    (sym (sunssf_told c.in_ok-number-in-Named.description.now.kind) ∙ sym c.eq.ensures ∙ c.if-eq.true)

pub returns-else-eq-clause-found : goal.returns-else-eq-clause-found
returns-else-eq-clause-found c =
    factor_found c.args.points.now.entries c.args.factor c.in-Named.name (Some c.in_ok-number-in-Named.description.now) _ c.in-Named.is c.in_ok-number-in-Named.ensures.value
    (sym (sunssf_told c.in_ok-number-in-Named.description.now.kind) ∙ sym c.eq.ensures ∙ c.if-eq.false)

pub returns-then-eq-clause-told : goal.returns-then-eq-clause-told
returns-then-eq-clause-told c =
    factor_name c.args.points.now.entries c.args.factor c.in-Named.name c.in_ok-number-in-Named.field-0-1.now c.in_ok-number-in-Named.description.now c.in_ok-number-in-Named.number
    c.in-Named.is c.in_ok-number-in-Named.ensures.entry c.in_ok-number-in-Named.ensures.key

pub returns-then-eq-clause-among : goal.returns-then-eq-clause-among
returns-then-eq-clause-among c =
    let kind = sunssf_from c.in_ok-number-in-Named.description.now.kind (sym (sunssf_told c.in_ok-number-in-Named.description.now.kind) ∙ sym c.eq.ensures ∙ c.if-eq.true) in
    λ j. factor_kind c.args.points.now.entries c.in_ok-number-in-Named.field-0-1.now c.in_ok-number-in-Named.description.now c.in_ok-number-in-Named.number j
    c.in_ok-number-in-Named.ensures.entry kind
