use Rattle.commands.proofs.ExplainLemmas.{tree_explained, unassembled_explained}
use Rattle.commands.proofs.explained.outcome_of_program.Goals as goal

pub returns-in-Ok : goal.returns-in-Ok
returns-in-Ok g c = tree_explained c.args.site.now c.args.program c.in-Ok.image c.outcome_of_image.result c.requires c.in-Ok.ensures.assembled c.outcome_of_image.ensures

pub returns-in-Err : goal.returns-in-Err
returns-in-Err g c = unassembled_explained c.args.site.now c.args.program c.in-Err.fault c.unassembled.result c.requires c.in-Err.ensures.refused c.unassembled.ensures.real c.unassembled.ensures.told
