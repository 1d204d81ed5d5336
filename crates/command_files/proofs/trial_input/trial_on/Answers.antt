use Rattle.command_files.proofs.trial_input.trial_on.Goals as goal

pub returns : goal.returns
returns g c = c.try_input-status.ensures
