use Rattle.std.proofs.Common.{◌≡◌, ◌++◌, drop}
use Rattle.std.specs.List.{flat_map}
use Rattle.gateway.specs.served.Points.{model_points}
use Rattle.gateway.proofs.served.points.push_models.Given as goal

abbrev pub invariant-loop-model : goal.invariant-loop-model
invariant-loop-model l = l.initial.points ++ flat_map (model_points l.site.served l.site.tags) l.site.models ≡ l.points ++ flat_map (model_points l.site.served l.site.tags) (drop l.model-index l.site.models)
