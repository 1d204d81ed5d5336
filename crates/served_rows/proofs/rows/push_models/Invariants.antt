use Rattle.std.proofs.Common.{◌≡◌, ◌++◌, drop, map}
use Rattle.std.specs.List.{flat_map}
use Rattle.gateway.specs.served.Points.{model_points}
use Rattle.served_rows.specs.Rows.{point_of, subject_of, subjects_of_models}
use Rattle.served_rows.proofs.rows.push_models.Given as goal

abbrev pub invariant-loop-number : goal.invariant-loop-number
invariant-loop-number l =
    (map point_of l.initial.rows.rows.items ++ flat_map (model_points l.site.served l.site.tags) l.site.models ≡ map point_of l.rows.rows.items ++ flat_map (model_points l.site.served l.site.tags) (drop l.number l.site.models))
    × (map subject_of l.initial.rows.rows.items ++ subjects_of_models 0 l.site.models ≡ map subject_of l.rows.rows.items ++ subjects_of_models l.number (drop l.number l.site.models))
    × (l.rows.first ≡ l.initial.rows.first)
