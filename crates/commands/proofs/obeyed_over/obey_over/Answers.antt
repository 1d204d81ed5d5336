use Rattle.commands.proofs.obeyed_over.obey_over.Goals as goal

pub returns-in-Run : goal.returns-in-Run
returns-in-Run g c = rw c.in-Run.is c.run_by.ensures

pub returns-in-Probe : goal.returns-in-Probe
returns-in-Probe g c = rw c.in-Probe.is c.probe_by-status.ensures
