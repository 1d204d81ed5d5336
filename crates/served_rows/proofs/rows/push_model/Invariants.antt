use Rattle.std.proofs.Common.{◌≡◌, ◌++◌, drop, map}
use Rattle.gateway.specs.served.Points.{points_from}
use Rattle.served_rows.specs.Rows.{point_of, subject_of, subjects_from}
use Rattle.served_rows.proofs.rows.push_model.Given as goal

abbrev pub invariant-loop-i : goal.invariant-loop-i
invariant-loop-i l =
    (map point_of l.initial.rows.rows.items ++ points_from l.site.served l.site.tags l.model 0 l.model.points ≡ map point_of l.rows.rows.items ++ points_from l.site.served l.site.tags l.model l.i (drop l.i l.model.points))
    × (map subject_of l.initial.rows.rows.items ++ subjects_from l.number 0 l.model.points ≡ map subject_of l.rows.rows.items ++ subjects_from l.number l.i (drop l.i l.model.points))
    × (l.rows.first ≡ l.initial.rows.first)
