use Rattle.command_line.proofs.file_command.obey_on.Goals as goal

pub returns-in-Check : goal.returns-in-Check
returns-in-Check g c = rw c.in-Check.is c.checked.ensures

pub returns-in-Explain : goal.returns-in-Explain
returns-in-Explain g c = rw c.in-Explain.is c.told.ensures

pub returns-in-Simulate : goal.returns-in-Simulate
returns-in-Simulate g c = rw c.in-Simulate.is c.simulate.ensures

pub returns-in-Run : goal.returns-in-Run
returns-in-Run g c = rw c.in-Run.is c.run_plant.ensures

pub returns-in-Probe : goal.returns-in-Probe
returns-in-Probe g c = rw c.in-Probe.is c.probe_over.ensures
