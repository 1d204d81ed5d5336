use Rattle.std.proofs.Common.{subst, sym}
use Rattle.commands.specs.Outcome.{TellsImage}
use Rattle.commands.proofs.scan.scan_outcome.Goals as goal

pub returns-in-Ok : goal.returns-in-Ok
returns-in-Ok c = λ image start. subst (TellsImage image c.args.readings.now) (sym c.with_trap.ensures) (c.in-Ok.ensures image start)
