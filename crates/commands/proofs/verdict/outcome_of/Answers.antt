use Rattle.std.proofs.Common.{ℕ, Ok, subst}
use Rattle.commands.specs.Accepted.{Gives}
use Rattle.commands.proofs.AcceptedLemmas.{told_accepted}
use Rattle.commands.proofs.verdict.outcome_of.Goals as goal

pub returns-in-Ok-clause-told : goal.returns-in-Ok-clause-told
returns-in-Ok-clause-told c = told_accepted {E = ℕ} _ c.args.site.now c.args.program.now c.in-Ok-Ok.given c.budget.result (Ok c.in-Ok.outcome) (subst (Gives c.args.site.now c.args.program.now _) c.in-Ok-Ok.field-0-is c.in-Ok-Ok.ensures) c.budget.ensures.budget c.in-Ok.ensures
