-- Spans from the least to the greatest result on the four pairs of ends.
use Rattle.std.proofs.Common.{Bool, true, false, cond, ℤ, ◌≤ℤ◌, int_lt, arith}
use Rattle.std.proofs.lemmas.Int.{ints, clamps}
use Rattle.std.specs.Int.{int_min, int_max}
use Rattle.intervals.specs.declared.Span.{Span}
use Rattle.intervals.specs.Ends.{over_ends}
use Rattle.intervals.specs.Members.{IsIn, IsOrdered, IsResult, ReachesEnds}
use Rattle.intervals.proofs.Sums.{low_in, high_in, result_at}

-- r lies between p and q, whichever is the lesser
pub record LiesBetween (p q r : ℤ) : Type 0 where
  pub from : int_min p q ≤ℤ r
  pub to : r ≤ℤ int_max p q

-- a result that lies between those at the ends of one operand, and these between those at the ends of the other
pub in_corners : (f : ℤ → ℤ → ℤ) (s t : Span) (x y : ℤ) → LiesBetween (f s.low y) (f s.high y) (f x y) → LiesBetween (f s.low t.low) (f s.low t.high) (f s.low y) → LiesBetween (f s.high t.low) (f s.high t.high) (f s.high y) → IsIn (over_ends f s t) (f x y)
in_corners f s t x y h k l = (omega (arith, ints, clamps, h.from, k.from, l.from), omega (arith, ints, clamps, h.to, k.to, l.to))

-- the lesser and the greater of two numbers are among the two
of_min : (P : ℤ → Type 0) (a b : ℤ) → P a → P b → P (int_min a b)
of_min P a b p q = by (int_lt b a)
  where
    by : (t : Bool) → P (cond t b a)
    by true = q
    by false = p

of_max : (P : ℤ → Type 0) (a b : ℤ) → P a → P b → P (int_max a b)
of_max P a b p q = by (int_lt b a)
  where
    by : (t : Bool) → P (cond t a b)
    by true = p
    by false = q

pub corners_reached : (f : ℤ → ℤ → ℤ) (s t : Span) → IsOrdered s → IsOrdered t → ReachesEnds f s t (over_ends f s t)
corners_reached f s t p q =
    let a = result_at f s t s.low t.low (low_in s p) (low_in t q) in
    let b = result_at f s t s.low t.high (low_in s p) (high_in t q) in
    let c = result_at f s t s.high t.low (high_in s p) (low_in t q) in
    let d = result_at f s t s.high t.high (high_in s p) (high_in t q) in
    let P : ℤ → Type 0 = λ n. IsResult f s t n in
    record {
      low = of_min P _ _ (of_min P _ _ a b) (of_min P _ _ c d);
      high = of_max P _ _ (of_max P _ _ a b) (of_max P _ _ c d);
    }
