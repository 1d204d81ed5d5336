use Rattle.std.proofs.Common.{IfOk, Result, subst, sym}
use Rattle.il_reader.specs.declared.fault.ReadFault.{ReadFault}
use Rattle.il_reader.specs.declared.tree.Program.{Program as Tree}
use Rattle.commands.specs.Accepted.{GivesVerified}
use Rattle.commands.proofs.accepted.accept_program.Goals as goal

pub returns-in-Ok : goal.returns-in-Ok
returns-in-Ok c = subst (λ (t : Result Tree ReadFault). IfOk c.verified_program.result (GivesVerified c.args.site.now t)) (sym c.in-Ok.ensures) c.verified_program.ensures
