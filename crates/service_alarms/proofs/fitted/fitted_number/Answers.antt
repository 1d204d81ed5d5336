use Rattle.std.proofs.Common.{◌≡◌, FitsSigned, Some, rules, subst, ◌∙◌, ap, slice_get}
use Rattle.std.specs.Int.{w64}
use Rattle.std.proofs.lemmas.Int.{to_z-of_z}
use Rattle.gateway.specs.event_core.Core.{Gateway}
use Rattle.point_writer.specs.SetPoint.{IsFactorFor}
use Rattle.site_model.specs.Readings.{known_at}
use Rattle.service_alarms.proofs.Fittings.{fitted, none_fitted}
use Rattle.service_alarms.proofs.fitted.fitted_number.Goals as goal

pub returns-clause-out : goal.returns-clause-out
returns-clause-out c =
    let g = c.args.core.now in
    let place = c.in_ok-place.place in
    let output : Some place ≡ slice_get g.site.outs c.args.i = search rules in
    let named : Some c.in_ok-tag.tag.now ≡ slice_get g.site.tags place = search rules in
    let stored : Some c.in_ok-stored.stored ≡ known_at (g.standing.last).outputs place = search rules in
    let f : FitsSigned w64 c.in_ok-stored.stored = search rules in
    fitted g c.args.i place c.in_ok-tag.tag.now c.in_ok-stored.stored c.factor.result output named stored c.factor.ensures c.other_number.result (simp to_z-of_z at c.other_number.ensures.out)

pub returns-clause-none : goal.returns-clause-none
returns-clause-none c =
    let g = c.args.core.now in
    let place = c.in_ok-place.place in
    let output : Some place ≡ slice_get g.site.outs c.args.i = search rules in
    let named : Some c.in_ok-tag.tag.now ≡ slice_get g.site.tags place = search rules in
    let stored : Some c.in_ok-stored.stored ≡ known_at (g.standing.last).outputs place = search rules in
    let f : FitsSigned w64 c.in_ok-stored.stored = search rules in
    none_fitted g c.args.i place c.in_ok-tag.tag.now c.in_ok-stored.stored c.factor.result output named stored c.factor.ensures c.other_number.result (simp to_z-of_z at c.other_number.ensures.none)
