-- Counts of faults, one after another.
use Rattle.std.proofs.Common.{ℕ, Bool, false, Option, Some, None, arith}
use Rattle.register_map.specs.Reads.{Counts}

-- what is counted after no fault
pub Counts-then : (a b c : Option ℕ) (faulty : Bool) → Counts a b false → Counts b c faulty → Counts a c faulty
Counts-then None None c faulty p q = q
Counts-then None (Some m) c faulty p q = grind arith
Counts-then (Some n) None c faulty p q = rw q tt
Counts-then (Some n) (Some m) None faulty p q = tt
Counts-then (Some n) (Some m) (Some k) faulty p q = rw (← p) q
