use Rattle.std.proofs.Common.{subst, sym}
use Rattle.il_reader.specs.Reading.{reading}
use Rattle.commands.specs.Explained.{ExplainsProgram}
use Rattle.commands.proofs.explained.outcome_for.Goals as goal

pub returns-in-Ok : goal.returns-in-Ok
returns-in-Ok g c = subst (ExplainsProgram c.args.site (reading c.args.text.now)) (sym c.with_site.ensures) c.in-Ok.ensures
