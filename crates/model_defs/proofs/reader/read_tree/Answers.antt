use Rattle.std.proofs.Common.{◌≡◌, ◌∙◌, false, rules, subst, sym, true}
use Rattle.std.proofs.lemmas.Int.{to_z-of_z}
use mir.Syntax.{w128}
use mir.Val.{SFits}
use Rattle.serde_json.specs.View.{view}
use Rattle.model_defs.specs.Definition.{is_model_id}
use Rattle.model_defs.specs.Descriptions.{descriptions_view, outline_view}
use Rattle.model_defs.proofs.Refused.{bad_point, bad_points, no_id, repeating, told_of_fault}
use Rattle.model_defs.proofs.reader.read_tree.Goals as goal

pub returns-in_default-model_id-clause-placed : goal.returns-in_default-model_id-clause-placed
returns-in_default-model_id-clause-placed c = λ real.
    let fits : SFits w128 c.in-Some.outline.id = search rules in
    let bad = subst (λ id. is_model_id id ≡ false) (to_z-of_z w128 c.in-Some.outline.id fits) c.in_default-model_id.ensures in
    no_id (view c.args.tree.now) _ (outline_view c.in-Some.outline) (sym c.in-Some.ensures) c.requires bad

pub returns-then-has_groups-clause-placed : goal.returns-then-has_groups-clause-placed
returns-then-has_groups-clause-placed c = λ real.
    let fits : SFits w128 c.in-Some.outline.id = search rules in
    let good = subst (λ id. is_model_id id ≡ true) (to_z-of_z w128 c.in-Some.outline.id fits) c.in-Some-model_id.ensures.0 in
    repeating (view c.args.tree.now) _ (outline_view c.in-Some.outline) (sym c.in-Some.ensures) c.requires good (sym c.has_groups.ensures ∙ c.if-has_groups.true)

pub returns-in_err-points-clause-placed : goal.returns-in_err-points-clause-placed
returns-in_err-points-clause-placed c =
    let fits : SFits w128 c.in-Some.outline.id = search rules in
    let good = subst (λ id. is_model_id id ≡ true) (to_z-of_z w128 c.in-Some.outline.id fits) c.in-Some-model_id.ensures.0 in
    told_of_fault c.from_residual.result c.in_err-points.field-0.0 _ c.from_residual.ensures.1 (λ real.
    bad_point (view c.args.tree.now) _ c.in_err-points.field-0.0 (outline_view c.in-Some.outline) (sym c.in-Some.ensures) good (sym c.has_groups.ensures ∙ c.if-has_groups.false)
    (c.in_err-points.ensures.placed real))

pub returns-clause-placed : goal.returns-clause-placed
returns-clause-placed c =
    let fits : SFits w128 c.in-Some.outline.id = search rules in
    let good = subst (λ id. is_model_id id ≡ true) (to_z-of_z w128 c.in-Some.outline.id fits) c.in-Some-model_id.ensures.0 in
    bad_points (view c.args.tree.now) _ (outline_view c.in-Some.outline) (descriptions_view c.in_ok-points.points.entries) c.lay_out.result (sym c.in-Some.ensures) good
    (sym c.has_groups.ensures ∙ c.if-has_groups.false) c.in_ok-points.ensures.told c.in_ok-points.ensures.unbroken c.lay_out.ensures.placed
