use Rattle.std.proofs.Common.{◌≡◌, ◌++◌, drop}
use Rattle.gateway.specs.served.Points.{points_from}
use Rattle.gateway.proofs.served.points.push_model.Given as goal

abbrev pub invariant-loop-i : goal.invariant-loop-i
invariant-loop-i l = l.initial.points ++ points_from l.served l.tags l.model 0 l.model.points ≡ l.points ++ points_from l.served l.tags l.model l.i (drop l.i l.model.points)
