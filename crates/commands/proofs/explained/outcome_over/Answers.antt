use Rattle.std.proofs.Common.{◌≡◌, List, IfOk, subst, rules}
use Rattle.model_defs.specs.declared.model.ModelDef.{ModelDef}
use Rattle.commands.specs.Explained.{ExplainsSite}
use Rattle.commands.proofs.ExplainLemmas.{no_site_explained, site_explained}
use Rattle.commands.proofs.explained.outcome_over.Goals as goal

pub returns-in-Ok : goal.returns-in-Ok
returns-in-Ok g c =
    let same : c.as_slice.result.now ≡ c.args.models.items = search rules in
    subst (λ (ms : List ModelDef). IfOk c.outcome_for.result (ExplainsSite ms c.args.site.now c.args.program.now)) same
    (site_explained c.as_slice.result.now c.args.site.now c.args.program.now c.in-Ok.site c.outcome_for.result c.in-Ok.ensures.told c.outcome_for.ensures)

pub returns-in-Err : goal.returns-in-Err
returns-in-Err g c =
    let same : c.as_slice.result.now ≡ c.args.models.items = search rules in
    subst (λ (ms : List ModelDef). IfOk c.no_site.result (ExplainsSite ms c.args.site.now c.args.program.now)) same
    (no_site_explained c.as_slice.result.now c.args.site.now c.args.program.now c.in-Err.placed.fault c.no_site.result c.in-Err.ensures.refused c.no_site.ensures.real c.no_site.ensures.told)
