use Rattle.std.proofs.Common.{true}
use Rattle.commands.specs.Clients.{ClientsAsk}
use Rattle.commands.proofs.clients.ask_all.Given as goal

-- What was asked so far was asked by clients.
abbrev pub invariant-loop-i : goal.invariant-loop-i
invariant-loop-i g l = ClientsAsk true l.initial.core l.core
