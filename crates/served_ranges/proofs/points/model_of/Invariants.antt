use Rattle.std.proofs.Common.{◌≡◌, drop}
use Rattle.served_ranges.specs.Shown.{model_of}
use Rattle.served_ranges.proofs.points.model_of.Given as goal

abbrev pub invariant-loop-model : goal.invariant-loop-model
invariant-loop-model l = model_of l.models l.id ≡ model_of (drop l.model-index l.models) l.id
