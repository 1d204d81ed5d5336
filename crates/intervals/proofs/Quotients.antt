-- A quotient, cut toward zero, lies between those at the ends of either operand, where no divisor is 0.
use Rattle.std.proofs.Common.{◌≡◌, ℕ, zero, suc, ◌/◌, ◌≤◌, ◌<◌, ℤ, pos, negsuc, neg_ℤ, ◌≤ℤ◌, int_div, unsigned_abs, to_z, of_z, refl, arith}
use Rattle.std.proofs.Math.Nat.{div-mul-le_self, mul-le-mul_left}
use native.Mathlib.Nat.{div-le_self}
use Rattle.std.proofs.lemmas.Nat.{le-div}
use Rattle.std.proofs.lemmas.Int.{ints, clamps, quot_is, fits_signed_from_abs}
use Rattle.std.specs.Int.{w128}
use Rattle.intervals.specs.declared.Span.{Span}
use Rattle.intervals.specs.Ends.{quotient_of}
use Rattle.intervals.specs.Members.{IsIn, lint, HoldsResults}
use Rattle.intervals.proofs.Products.{size_in_lint}
use Rattle.intervals.proofs.Corners.{LiesBetween, in_corners}

div_up : (m n k : ℕ) → 0 < k → m ≤ n → m / k ≤ n / k
div_up m n k p h = le-div (m / k) n k p (omega (arith, div-mul-le_self m k))

div_down : (m k j : ℕ) → 0 < k → k ≤ j → m / j ≤ m / k
div_down m k j p h = le-div (m / j) m k p (omega (arith, div-mul-le_self m j, mul-le-mul_left (m / j) h))

quotient_up : (x z : ℤ) (k : ℕ) → 0 < k → x ≤ℤ z → int_div x (pos k) ≤ℤ int_div z (pos k)
quotient_up (pos x) (pos z) k p h = let le : x ≤ z = omega (arith, ints) in omega (arith, ints, div_up x z k p le)
quotient_up (pos x) (negsuc z) k p h = absurd h.le
quotient_up (negsuc x) (pos z) k p h = omega (arith, ints)
quotient_up (negsuc x) (negsuc z) k p h = let le : suc z ≤ suc x = omega (arith, ints) in omega (arith, ints, div_up (suc z) (suc x) k p le)

-- a negative divisor turns the sign of the quotient
turned : (x : ℤ) (y : ℕ) → int_div x (negsuc y) ≡ neg_ℤ (int_div x (pos (suc y)))
turned (pos x) y = refl
turned (negsuc x) y = omega (arith, ints)

between_turned : (p q r : ℤ) → LiesBetween p q r → LiesBetween (neg_ℤ p) (neg_ℤ q) (neg_ℤ r)
between_turned p q r h = record { from = omega (arith, ints, clamps, h.to); to = omega (arith, ints, clamps, h.from) }

between_swapped : (p q r : ℤ) → LiesBetween p q r → LiesBetween q p r
between_swapped p q r h = record { from = omega (arith, ints, clamps, h.from); to = omega (arith, ints, clamps, h.to) }

over_positive : (a b x : ℤ) (k : ℕ) → 0 < k → a ≤ℤ x → x ≤ℤ b → LiesBetween (int_div a (pos k)) (int_div b (pos k)) (int_div x (pos k))
over_positive a b x k p h l = record { from = omega (arith, ints, clamps, quotient_up a x k p h); to = omega (arith, ints, clamps, quotient_up x b k p l) }

over_negative : (a b x : ℤ) (k : ℕ) → a ≤ℤ x → x ≤ℤ b → LiesBetween (int_div a (negsuc k)) (int_div b (negsuc k)) (int_div x (negsuc k))
over_negative a b x k h l = rw (turned a k, turned b k, turned x k) (between_turned _ _ _ (over_positive a b x (suc k) (omega arith) h l))

by_positive : (x : ℤ) (c y d : ℕ) → 0 < c → c ≤ y → y ≤ d → LiesBetween (int_div x (pos c)) (int_div x (pos d)) (int_div x (pos y))
by_positive (pos x) c y d p h l =
    let q : 0 < y = omega arith in
    let e = div_down x c y p h in let e' = div_down x y d q l in
    record { from = omega (arith, ints, clamps); to = omega (arith, ints, clamps) }
by_positive (negsuc x) c y d p h l =
    let q : 0 < y = omega arith in
    let e = div_down (suc x) c y p h in let e' = div_down (suc x) y d q l in
    record { from = omega (arith, ints, clamps); to = omega (arith, ints, clamps) }

by_negative : (x : ℤ) (c y d : ℕ) → d ≤ y → y ≤ c → LiesBetween (int_div x (negsuc c)) (int_div x (negsuc d)) (int_div x (negsuc y))
by_negative x c y d h l = rw (turned x c, turned x d, turned x y) (between_turned _ _ _ (between_swapped _ _ _ (by_positive x (suc d) (suc y) (suc c) (omega arith) (omega arith) (omega arith))))

quotient_in : (s t : Span) (x y : ℤ) → IsIn s x → IsIn t y → ¬ IsIn t (pos 0) → IsIn (quotient_of s t) (int_div x y)
quotient_in s t x y p q out = by t.low t.high y q.0 q.1 out
  where
    by : (c d n : ℤ) → c ≤ℤ n → n ≤ℤ d → ¬ ((c ≤ℤ pos 0) × (pos 0 ≤ℤ d)) → IsIn (quotient_of s (record { low = c; high = d })) (int_div x n)
    by (pos zero) d n r l o = absurd (o (omega (arith, ints), omega (arith, ints)))
    by (pos (suc c)) (negsuc d) n r l o = absurd (omega (arith, ints))
    by (pos (suc c)) (pos d) (negsuc n) r l o = absurd (omega (arith, ints))
    by (pos (suc c)) (pos d) (pos n) r l o =
        let h : suc c ≤ n = omega (arith, ints) in let k : n ≤ d = omega (arith, ints) in
        in_corners int_div s (record { low = pos (suc c); high = pos d }) x (pos n) (over_positive s.low s.high x n (omega arith) p.0 p.1) (by_positive s.low (suc c) n d (omega arith) h k) (by_positive s.high (suc c) n d (omega arith) h k)
    by (negsuc c) (pos d) n r l o = absurd (o (omega (arith, ints), omega (arith, ints)))
    by (negsuc c) (negsuc d) (pos n) r l o = absurd (omega (arith, ints))
    by (negsuc c) (negsuc d) (negsuc n) r l o =
        let h : d ≤ n = omega (arith, ints) in let k : n ≤ c = omega (arith, ints) in
        in_corners int_div s (record { low = negsuc c; high = negsuc d }) x (negsuc n) (over_negative s.low s.high x n p.0 p.1) (by_negative s.low c n d h k) (by_negative s.high c n d h k)

pub quotient_holds : (s t : Span) → ¬ IsIn t (pos 0) → HoldsResults int_div s t (quotient_of s t)
quotient_holds s t out = record { each = λ x y p q. quotient_in s t x y p q out }

quotient_size : (a d : ℤ) → unsigned_abs (int_div a d) ≤ unsigned_abs a
quotient_size (pos a) (pos d) = div-le_self a d
quotient_size (pos a) (negsuc d) = omega (arith, ints, div-le_self a (suc d))
quotient_size (negsuc a) (pos d) = omega (arith, ints, div-le_self (suc a) d)
quotient_size (negsuc a) (negsuc d) = div-le_self (suc a) (suc d)

-- what 128 bits read back of the quotient of two numbers of LINT
pub quotient_read : (a d : ℤ) → IsIn lint a → IsIn lint d → to_z w128 (of_z w128 (int_div (to_z w128 (of_z w128 a)) (to_z w128 (of_z w128 d)))) ≡ int_div a d
quotient_read a d p q =
    let f = fits_signed_from_abs w128 (int_div a d) (omega (arith, quotient_size a d, size_in_lint a p)) in
    quot_is w128 a d (omega (arith, ints, p.0, p.1)) (omega (arith, ints, q.0, q.1)) f
