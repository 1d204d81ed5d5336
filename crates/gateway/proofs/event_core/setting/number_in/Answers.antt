use Rattle.gateway.proofs.event_core.setting.number_in.Goals as goal

pub returns-in-Number : goal.returns-in-Number
returns-in-Number c = rw c.in-Number.is c.scaled_in.ensures
