use Rattle.commands.proofs.ClientLemmas.{asks_once}
use Rattle.commands.proofs.clients.ask_once.Goals as goal

pub returns : goal.returns
returns c = asks_once c.args.core.now c.step.new.self c.args.pdu c.step.result c.step.ensures.run c.step.ensures.machine c.step.ensures.same
