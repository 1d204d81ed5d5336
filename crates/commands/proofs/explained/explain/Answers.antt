use Rattle.std.proofs.Common.{inl}
use Rattle.commands.proofs.explained.explain.Goals as goal

pub returns-in-Ok : goal.returns-in-Ok
returns-in-Ok g c = (c.in-Ok.outcome, inl c.in-Ok.ensures, c.tell.ensures)
