use Rattle.std.proofs.Common.{◌≡◌, map, take}
use Rattle.point_types.specs.Name.{folded, padded}
use Rattle.point_types.proofs.name.in_lower_case.Given as goal

abbrev pub invariant-loop-i : goal.invariant-loop-i
invariant-loop-i l = l.bytes ≡ padded (map folded (take l.i l.text))
