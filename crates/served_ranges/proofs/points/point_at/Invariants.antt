use Rattle.std.proofs.Common.{◌≡◌, nat_eq, find, drop}
use Rattle.served_ranges.proofs.points.point_at.Given as goal

abbrev pub invariant-loop-point : goal.invariant-loop-point
invariant-loop-point l = find (λ p. nat_eq p.offset l.offset) l.points ≡ find (λ p. nat_eq p.offset l.offset) (drop l.point-index l.points)
