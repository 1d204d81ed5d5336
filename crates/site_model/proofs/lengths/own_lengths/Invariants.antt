use Rattle.std.proofs.Common.{◌≡◌, ◌++◌, drop, map}
use Rattle.site_model.specs.Lengths.{length_of_model}
use Rattle.site_model.proofs.lengths.own_lengths.Given as goal

-- the lengths so far, then those of the later models
abbrev pub invariant-loop-model : goal.invariant-loop-model
invariant-loop-model l = (l.lengths ++ map length_of_model (drop l.model-index l.own)) ≡ map length_of_model l.own
