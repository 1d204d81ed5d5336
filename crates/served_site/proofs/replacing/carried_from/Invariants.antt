use Rattle.std.proofs.Common.{◌≡◌, ◌++◌, drop}
use Rattle.served_site.specs.Replacing.{carried}
use Rattle.served_site.proofs.replacing.carried_from.Given as goal

abbrev pub invariant-loop-var : goal.invariant-loop-var
invariant-loop-var l = l.kept.items ++ carried (drop l.var-index l.vars) l.machine.accepted.image.vars l.machine.variables ≡ carried l.vars l.machine.accepted.image.vars l.machine.variables
