use Rattle.command_files.proofs.trial_input.tell_hindered.Goals as goal

pub returns-after-not-quiet : goal.returns-after-not-quiet
returns-after-not-quiet g c = rw c.in-Unusable.is c.write_lines.ensures
