use Rattle.std.proofs.Common.{IfOk, Result, subst, sym}
use Rattle.il_reader.specs.declared.fault.ReadFault.{ReadFault}
use Rattle.il_reader.specs.declared.tree.Program.{Program as Tree}
use Rattle.commands.specs.Explained.{ExplainsProgram}
use Rattle.commands.proofs.ExplainLemmas.{unread_explained}
use Rattle.commands.proofs.explained.outcome_on.Goals as goal

pub returns-in-Ok : goal.returns-in-Ok
returns-in-Ok g c = subst (λ (t : Result Tree ReadFault). IfOk c.outcome_of_program.result (ExplainsProgram c.args.site.now t)) (sym c.in-Ok.ensures) c.outcome_of_program.ensures

pub returns-in-Err : goal.returns-in-Err
returns-in-Err g c = unread_explained c.args.site.now c.args.text.now c.in-Err.fault c.unread.result c.in-Err.ensures c.unread.ensures.real c.unread.ensures.told
