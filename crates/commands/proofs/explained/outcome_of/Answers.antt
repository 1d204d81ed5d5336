use Rattle.commands.proofs.ExplainLemmas.{models_explained, undefined_explained}
use Rattle.commands.proofs.explained.outcome_of.Goals as goal

pub returns-in-Ok : goal.returns-in-Ok
returns-in-Ok g c = models_explained c.in-Ok.models.items _ c.args.site.now c.args.program.now c.outcome_over.result c.in-Ok.ensures.read c.outcome_over.ensures

pub returns-in-Err : goal.returns-in-Err
returns-in-Err g c = undefined_explained c.args.site.now c.args.program.now _ c.in-Err.fault c.undefined.result c.in-Err.ensures.refused c.undefined.ensures.real c.undefined.ensures.told
