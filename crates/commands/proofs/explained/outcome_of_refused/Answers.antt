use Rattle.std.proofs.Common.{subst, sym}
use Rattle.commands.specs.Explained.{EndsRefused}
use Rattle.commands.proofs.explained.outcome_of_refused.Goals as goal

pub returns-in-Ok : goal.returns-in-Ok
returns-in-Ok g c = subst (EndsRefused c.args.refused.kind c.args.refused.at) (sym c.caused.ensures) c.in-Ok.ensures
