use Rattle.il_assemble.proofs.Turns.{turns_never_run_out}
use Rattle.il_assemble.proofs.laws.turns_never_run_out.Goals as goal

pub returns : goal.returns
returns c = turns_never_run_out
