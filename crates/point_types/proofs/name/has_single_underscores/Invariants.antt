use Rattle.std.proofs.Common.{◌≡◌, length}
use Rattle.point_types.specs.Name.{is_parted}
use Rattle.point_types.proofs.name.has_single_underscores.Given as goal

abbrev pub invariant-loop-rest : goal.invariant-loop-rest
invariant-loop-rest l = is_parted l.word ≡ is_parted l.rest

abbrev pub decreases-loop-rest : goal.decreases-loop-rest
decreases-loop-rest l = length l.rest
