use Rattle.commands.proofs.definitions.push_definition.Goals as goal

pub returns-in_ok-push-in-Ok-clause-read : goal.returns-in_ok-push-in-Ok-clause-read
returns-in_ok-push-in-Ok-clause-read c = rw (← c.as_bytes.ensures.value) (c.in-Ok.model, c.in-Ok.ensures.ok, c.in_ok-push-in-Ok.ensures.items)

pub returns-in-Err-clause-refused : goal.returns-in-Err-clause-refused
returns-in-Err-clause-refused c = rw (← c.as_bytes.ensures.value) c.in-Err.ensures.refused
