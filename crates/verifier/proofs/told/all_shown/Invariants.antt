use Rattle.std.proofs.Common.{◌≡◌, ◌++◌, drop, map, option_map}
use Rattle.verifier.specs.Told.{shown}
use Rattle.verifier.proofs.told.all_shown.Given as goal

abbrev pub invariant-loop-value : goal.invariant-loop-value
invariant-loop-value l = l.all.items ++ map (option_map shown) (drop l.value-index l.values) ≡ map (option_map shown) l.values
