use Rattle.commands.proofs.OutcomeLemmas.{tree_told_by, unassembled_told}
use Rattle.commands.proofs.trial_scan.outcome_of_program.Goals as goal

pub returns-in-Ok : goal.returns-in-Ok
returns-in-Ok c = tree_told_by c.args.program c.in-Ok.image _ c.outcome_of_image.result c.requires c.in-Ok.ensures.assembled c.outcome_of_image.ensures

pub returns-in-Err : goal.returns-in-Err
returns-in-Err c = unassembled_told c.args.program _ c.in-Err.fault c.unassembled.result c.requires c.in-Err.ensures.refused c.unassembled.ensures.real c.unassembled.ensures.told
