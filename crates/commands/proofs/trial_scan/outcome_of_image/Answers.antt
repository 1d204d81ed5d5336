use Rattle.commands.proofs.trial_scan.outcome_of_image.Goals as goal

pub returns-in-Ok : goal.returns-in-Ok
returns-in-Ok c = c.outcome_of_trial.ensures c.args.image c.in-Ok.ensures
