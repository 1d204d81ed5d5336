-- A remainder has the sign of what was divided, is no further from 0, and is nearer to 0 than the divisor.
use Rattle.std.proofs.Common.{◌≡◌, ◌⊎◌, inl, inr, Bool, true, false, zero, suc, ◌<◌, ℤ, pos, negsuc, neg_ℤ, ◌-ℤ◌, ◌≤ℤ◌, int_lt, int_rem, unsigned_abs, refl, arith, if◌then◌else◌}
use native.Mathlib.Nat.{mod-le}
use Rattle.std.proofs.lemmas.Int.{ints, clamps, rem_below}
use Rattle.std.specs.Int.{int_min, int_max}
use Rattle.intervals.specs.declared.Span.{Span}
use Rattle.intervals.specs.Ends.{between, magnitude_of, remainder_bound, remainder_of}
use Rattle.intervals.specs.Members.{IsIn, IsOfLint, lint, HoldsResults}
use Rattle.intervals.proofs.Products.{sign_of}

-- from 0 to x, whichever is the lesser
of_positive : (x y : ℤ) → pos 0 ≤ℤ x → (pos 0 ≤ℤ int_rem x y) × (int_rem x y ≤ℤ x)
of_positive (pos x) y h = let e = mod-le x (unsigned_abs y) in (omega (arith, ints), omega (arith, ints))
of_positive (negsuc x) y h = absurd (omega (arith, ints))

of_negative : (x y : ℤ) → x ≤ℤ pos 0 → (x ≤ℤ int_rem x y) × (int_rem x y ≤ℤ pos 0)
of_negative (pos x) y h = let e = mod-le x (unsigned_abs y) in (omega (arith, ints), omega (arith, ints))
of_negative (negsuc x) y h = let e = mod-le (suc x) (unsigned_abs y) in (omega (arith, ints), omega (arith, ints))

not_zero : (t : Span) (y : ℤ) → IsIn t y → ¬ IsIn t (pos 0) → 0 < unsigned_abs y
not_zero t (pos zero) q out = absurd (out q)
not_zero t (pos (suc y)) q out = omega arith
not_zero t (negsuc y) q out = omega arith

-- nearer to 0 than the divisor that is the furthest from it
below_bound : (t : Span) (x y : ℤ) → IsIn t y → ¬ IsIn t (pos 0) → (int_rem x y ≤ℤ remainder_bound t) × (neg_ℤ (remainder_bound t) ≤ℤ int_rem x y)
below_bound t x y q out = let e = rem_below x y (not_zero t y q out) in by (int_rem x y) e
  where
    by : (r : ℤ) → unsigned_abs r < unsigned_abs y → (r ≤ℤ remainder_bound t) × (neg_ℤ (remainder_bound t) ≤ℤ r)
    by r e = (omega (arith, ints, clamps, q.0, q.1), omega (arith, ints, clamps, q.0, q.1))

-- of a remainder r of x, and a bound m on its magnitude
in_ends : (a b m x r : ℤ) → a ≤ℤ x → x ≤ℤ b → ((pos 0 ≤ℤ x) × (pos 0 ≤ℤ r) × (r ≤ℤ x)) ⊎ ((x ≤ℤ pos 0) × (x ≤ℤ r) × (r ≤ℤ pos 0)) → r ≤ℤ m → neg_ℤ m ≤ℤ r
    → ((if int_lt a (pos 0) then int_max a (neg_ℤ m) else pos 0) ≤ℤ r) × (r ≤ℤ (if int_lt (pos 0) b then int_min b m else pos 0))
in_ends a b m x r p q s u l = (low_end (int_lt a (pos 0)) refl s, high_end (int_lt (pos 0) b) refl s)
  where
    low_end : (t : Bool) → int_lt a (pos 0) ≡ t → ((pos 0 ≤ℤ x) × (pos 0 ≤ℤ r) × (r ≤ℤ x)) ⊎ ((x ≤ℤ pos 0) × (x ≤ℤ r) × (r ≤ℤ pos 0)) → (if t then int_max a (neg_ℤ m) else pos 0) ≤ℤ r
    low_end true e (inl h) = omega (arith, ints, clamps, h.0, h.1, h.2)
    low_end true e (inr h) = omega (arith, ints, clamps, h.0, h.1, h.2)
    low_end false e (inl h) = h.1
    low_end false e (inr h) = omega (arith, ints, h.0, h.1, h.2)

    high_end : (t : Bool) → int_lt (pos 0) b ≡ t → ((pos 0 ≤ℤ x) × (pos 0 ≤ℤ r) × (r ≤ℤ x)) ⊎ ((x ≤ℤ pos 0) × (x ≤ℤ r) × (r ≤ℤ pos 0)) → r ≤ℤ (if t then int_min b m else pos 0)
    high_end true e (inl h) = omega (arith, ints, clamps, h.0, h.1, h.2)
    high_end true e (inr h) = omega (arith, ints, clamps, h.0, h.1, h.2)
    high_end false e (inl h) = omega (arith, ints, h.0, h.1, h.2)
    high_end false e (inr h) = h.2

remainder_in : (s t : Span) (x y : ℤ) → IsIn s x → IsIn t y → ¬ IsIn t (pos 0) → IsIn (remainder_of s t) (int_rem x y)
remainder_in s t x y p q out =
    let near = below_bound t x y q out in
    in_ends s.low s.high (remainder_bound t) x (int_rem x y) p.0 p.1 (side (sign_of x)) near.0 near.1
  where
    side : (pos 0 ≤ℤ x) ⊎ (x ≤ℤ pos 0) → ((pos 0 ≤ℤ x) × (pos 0 ≤ℤ int_rem x y) × (int_rem x y ≤ℤ x)) ⊎ ((x ≤ℤ pos 0) × (x ≤ℤ int_rem x y) × (int_rem x y ≤ℤ pos 0))
    side (inl h) = inl (h, (of_positive x y h).0, (of_positive x y h).1)
    side (inr h) = inr (h, (of_negative x y h).0, (of_negative x y h).1)

pub remainder_holds : (s t : Span) → ¬ IsIn t (pos 0) → HoldsResults int_rem s t (remainder_of s t)
remainder_holds s t out = record { each = λ x y p q. remainder_in s t x y p q out }

-- as no divisor is 0, a bound of 0 or more
pub bound_of_lint : (t : Span) → IsOfLint t → ¬ IsIn t (pos 0) → (pos 0 ≤ℤ remainder_bound t)
bound_of_lint t q out = by t.low t.high q.ordered out
  where
    by : (c d : ℤ) → c ≤ℤ d → ¬ ((c ≤ℤ pos 0) × (pos 0 ≤ℤ d)) → pos 0 ≤ℤ (int_max (magnitude_of c) (magnitude_of d) -ℤ pos 1)
    by (pos zero) d h o = absurd (o (omega (arith, ints), omega (arith, ints)))
    by (pos (suc c)) d h o = omega (arith, ints, clamps)
    by (negsuc c) d h o = omega (arith, ints, clamps)

-- the ends, once more, as a number that is drawn toward 0
pub low_drawn : (a m r : ℤ) → pos 0 ≤ℤ m → r ≡ int_min (int_max a (neg_ℤ m)) (pos 0) → r ≡ (if int_lt a (pos 0) then int_max a (neg_ℤ m) else pos 0)
low_drawn a m r p q = by (int_lt a (pos 0)) refl
  where
    by : (t : Bool) → int_lt a (pos 0) ≡ t → r ≡ (if t then int_max a (neg_ℤ m) else pos 0)
    by true e = omega (arith, ints, clamps)
    by false e = omega (arith, ints, clamps)

pub high_drawn : (b m r : ℤ) → pos 0 ≤ℤ m → r ≡ int_max (int_min b m) (pos 0) → r ≡ (if int_lt (pos 0) b then int_min b m else pos 0)
high_drawn b m r p q = by (int_lt (pos 0) b) refl
  where
    by : (t : Bool) → int_lt (pos 0) b ≡ t → r ≡ (if t then int_min b m else pos 0)
    by true e = omega (arith, ints, clamps)
    by false e = omega (arith, ints, clamps)

pub remainder_of_lint : (s t : Span) → IsOfLint s → IsOfLint t → ¬ IsIn t (pos 0) → IsOfLint (remainder_of s t)
remainder_of_lint s t p q out = ends s.low s.high (remainder_bound t) p.ordered p.in_range.0 p.in_range.1 (bound_of_lint t q out)
  where
    ends : (a b m : ℤ) → a ≤ℤ b → IsIn lint a → IsIn lint b → pos 0 ≤ℤ m → IsOfLint (between (if int_lt a (pos 0) then int_max a (neg_ℤ m) else pos 0) (if int_lt (pos 0) b then int_min b m else pos 0))
    ends a b m o h k z = record {
      ordered = omega (arith, ints, low_end (int_lt a (pos 0)) refl, high_end (int_lt (pos 0) b) refl);
      in_range = (low_range (int_lt a (pos 0)) refl, high_range (int_lt (pos 0) b) refl);
    }
      where
        low_end : (t : Bool) → int_lt a (pos 0) ≡ t → (if t then int_max a (neg_ℤ m) else pos 0) ≤ℤ pos 0
        low_end true e = omega (arith, ints, clamps)
        low_end false e = omega (arith, ints)

        high_end : (t : Bool) → int_lt (pos 0) b ≡ t → pos 0 ≤ℤ (if t then int_min b m else pos 0)
        high_end true e = omega (arith, ints, clamps)
        high_end false e = omega (arith, ints)

        low_range : (t : Bool) → int_lt a (pos 0) ≡ t → IsIn lint (if t then int_max a (neg_ℤ m) else pos 0)
        low_range true e = (omega (arith, ints, clamps, h.0), omega (arith, ints, clamps, h.1))
        low_range false e = (omega (arith, ints), omega (arith, ints))

        high_range : (t : Bool) → int_lt (pos 0) b ≡ t → IsIn lint (if t then int_min b m else pos 0)
        high_range true e = (omega (arith, ints, clamps, k.0), omega (arith, ints, clamps, k.1))
        high_range false e = (omega (arith, ints), omega (arith, ints))
