use Rattle.commands.proofs.obeyed.obey.Goals as goal

pub returns-in-Check : goal.returns-in-Check
returns-in-Check g c = rw c.in-Check.is c.checked.ensures
