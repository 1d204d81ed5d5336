-- A product lies between those at the ends of either factor.
use Rattle.std.proofs.Common.{◌≡◌, ◌⊎◌, inl, inr, zero, suc, ◌+◌, ◌≤◌, ℤ, pos, negsuc, ◌*ℤ◌, ◌≤ℤ◌, ◌^◌, unsigned_abs, FitsSigned, to_z, of_z, refl, arith}
use Rattle.std.proofs.Math.Nat.{mul-le-mul_left}
use Rattle.std.proofs.lemmas.Int.{ints, clamps, to_z-of_z, fits_signed_mul}
use Rattle.std.specs.Int.{w128}
use borrow.Author.Differences.{up, down}
use Rattle.intervals.specs.declared.Span.{Span}
use Rattle.intervals.specs.Ends.{product_of}
use Rattle.intervals.specs.Members.{IsIn, lint, HoldsResults}
use Rattle.intervals.proofs.Corners.{LiesBetween, in_corners}

product_up : (x z n : ℤ) → x ≤ℤ z → pos 0 ≤ℤ n → (x *ℤ n) ≤ℤ (z *ℤ n)
product_up x z (pos n) h k = let e : (up x + down z) ≤ (up z + down x) = omega (arith, ints) in omega (arith, ints, mul-le-mul_left n e)
product_up x z (negsuc n) h k = absurd (omega (arith, ints))

product_down : (x z n : ℤ) → x ≤ℤ z → n ≤ℤ pos 0 → (z *ℤ n) ≤ℤ (x *ℤ n)
product_down x z (pos zero) h k = omega (arith, ints)
product_down x z (pos (suc n)) h k = absurd (omega (arith, ints))
product_down x z (negsuc n) h k = let e : (up x + down z) ≤ (up z + down x) = omega (arith, ints) in omega (arith, ints, mul-le-mul_left (suc n) e)

pub sign_of : (n : ℤ) → (pos 0 ≤ℤ n) ⊎ (n ≤ℤ pos 0)
sign_of (pos n) = inl (omega (arith, ints))
sign_of (negsuc n) = inr (omega (arith, ints))

in_left_factor : (a b x y : ℤ) → a ≤ℤ x → x ≤ℤ b → LiesBetween (a *ℤ y) (b *ℤ y) (x *ℤ y)
in_left_factor a b x y h k = by (sign_of y)
  where
    by : (pos 0 ≤ℤ y) ⊎ (y ≤ℤ pos 0) → LiesBetween (a *ℤ y) (b *ℤ y) (x *ℤ y)
    by (inl s) = record { from = omega (arith, ints, clamps, product_up a x y h s); to = omega (arith, ints, clamps, product_up x b y k s) }
    by (inr s) = record { from = omega (arith, ints, clamps, product_down x b y k s); to = omega (arith, ints, clamps, product_down a x y h s) }

product_swap : (x y : ℤ) → (x *ℤ y) ≡ (y *ℤ x)
product_swap x y = omega (arith, ints)

in_right_factor : (c d x y : ℤ) → c ≤ℤ y → y ≤ℤ d → LiesBetween (x *ℤ c) (x *ℤ d) (x *ℤ y)
in_right_factor c d x y h k = rw (product_swap x c, product_swap x d, product_swap x y) (in_left_factor c d y x h k)

pub product_holds : (s t : Span) → HoldsResults (λ x y. x *ℤ y) s t (product_of s t)
product_holds s t = record {
  each = λ x y p q.
      in_corners (λ a b. a *ℤ b) s t x y
      (in_left_factor s.low s.high x y p.0 p.1)
      (in_right_factor t.low t.high s.low y q.0 q.1)
      (in_right_factor t.low t.high s.high y q.0 q.1);
}

pub size_in_lint : (a : ℤ) → IsIn lint a → unsigned_abs a ≤ 2 ^ 63
size_in_lint a p = omega (arith, ints, p.0, p.1)

-- what 128 bits read back of the product of two numbers of LINT
pub product_read : (a b : ℤ) → IsIn lint a → IsIn lint b → to_z w128 (of_z w128 (to_z w128 (of_z w128 a) *ℤ to_z w128 (of_z w128 b))) ≡ a *ℤ b
product_read a b p q =
    let k : FitsSigned w128 a = omega (arith, ints, p.0, p.1) in
    let l : FitsSigned w128 b = omega (arith, ints, q.0, q.1) in
    let f = fits_signed_mul w128 a b (2 ^ 63) (2 ^ 63) (size_in_lint a p) (size_in_lint b q) (omega arith) in
    rw (to_z-of_z w128 a k, to_z-of_z w128 b l, to_z-of_z w128 (a *ℤ b) f) refl
