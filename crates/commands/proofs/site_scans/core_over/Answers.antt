use Rattle.std.proofs.Common.{IfOk, subst}
use Rattle.scan_vm.specs.Machine.{Running}
use Rattle.commands.specs.Opening.{MakesCore}
use Rattle.commands.proofs.site_scans.core_over.Goals as goal

pub returns-in-Ok : goal.returns-in-Ok
returns-in-Ok c = subst (λ (m : Running). IfOk c.core_with.result (MakesCore c.args.given.site m c.args.maps.items)) c.in-Ok.ensures c.core_with.ensures
