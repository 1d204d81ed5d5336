-- The absolute values of a span's members.
use Rattle.std.proofs.Common.{◌≡◌, Bool, true, false, ◌&&◌, refl, ℤ, pos, ◌≤ℤ◌, int_lt, int_le, cond, arith, if◌then◌else◌}
use Rattle.std.proofs.lemmas.Int.{ints, clamps}
use Rattle.std.specs.Int.{int_min}
use Rattle.intervals.specs.declared.Span.{Span}
use Rattle.intervals.specs.Ends.{absolute_of, least_magnitude, magnitude_of}
use Rattle.intervals.specs.Members.{IsIn, IsOrdered, HoldsMagnitudes, IsMagnitude, ReachesMagnitudes}
use Rattle.intervals.proofs.Sums.{low_in, high_in}

pub and_left : (a b : Bool) → a && b ≡ true → a ≡ true
and_left true b h = refl
and_left false b h = h

pub and_right : (a b : Bool) → a && b ≡ true → b ≡ true
and_right true b h = h
and_right false b h = grind arith

pub true_le : (a b : ℤ) → int_le a b ≡ true → a ≤ℤ b
true_le a b h = omega (arith, ints)

pub le_true : (a b : ℤ) → a ≤ℤ b → int_le a b ≡ true
le_true a b h = grind (arith, ints)

pub both_true : (a b : Bool) → a ≡ true → b ≡ true → a && b ≡ true
both_true a b p q = grind arith

magnitude_at : (s : Span) (x : ℤ) → IsIn s x → IsMagnitude s (magnitude_of x)
magnitude_at s x p = record { number = x; member = p; equation = refl }

low_below : (s : Span) (x : ℤ) → IsIn s x → least_magnitude s ≤ℤ magnitude_of x
low_below s x p = by (int_le s.low (pos 0) && int_le (pos 0) s.high) refl
  where
    by : (t : Bool) → int_le s.low (pos 0) && int_le (pos 0) s.high ≡ t → (if t then pos 0 else int_min (magnitude_of s.low) (magnitude_of s.high)) ≤ℤ magnitude_of x
    by true e = omega (arith, ints)
    by false e = first (int_le s.low (pos 0)) refl
      where
        first : (u : Bool) → int_le s.low (pos 0) ≡ u → int_min (magnitude_of s.low) (magnitude_of s.high) ≤ℤ magnitude_of x
        first false k = omega (arith, ints, clamps, p.0, p.1)
        first true k = second (int_le (pos 0) s.high) refl
          where
            second : (v : Bool) → int_le (pos 0) s.high ≡ v → int_min (magnitude_of s.low) (magnitude_of s.high) ≤ℤ magnitude_of x
            second false l = omega (arith, ints, clamps, p.0, p.1)
            second true l = absurd (grind (arith, both_true _ _ k l))

pub absolute_holds : (s : Span) → HoldsMagnitudes s (absolute_of s)
absolute_holds s = record { each = λ x p. (low_below s x p, omega (arith, ints, clamps, p.0, p.1)) }

low_magnitude : (s : Span) → IsOrdered s → IsMagnitude s (absolute_of s).low
low_magnitude s o = by (int_le s.low (pos 0) && int_le (pos 0) s.high) refl
  where
    of_ends : (u : Bool) → IsMagnitude s (cond u (magnitude_of s.high) (magnitude_of s.low))
    of_ends true = magnitude_at s s.high (high_in s o)
    of_ends false = magnitude_at s s.low (low_in s o)

    by : (t : Bool) → int_le s.low (pos 0) && int_le (pos 0) s.high ≡ t → IsMagnitude s (if t then pos 0 else int_min (magnitude_of s.low) (magnitude_of s.high))
    by true e =
        magnitude_at s (pos 0) (true_le s.low (pos 0) (and_left _ _ e), true_le (pos 0) s.high (and_right (int_le s.low (pos 0)) _ e))
    by false e = of_ends (int_lt (magnitude_of s.high) (magnitude_of s.low))

high_magnitude : (s : Span) → IsOrdered s → IsMagnitude s (absolute_of s).high
high_magnitude s o = of_ends (int_lt (magnitude_of s.high) (magnitude_of s.low))
  where
    of_ends : (u : Bool) → IsMagnitude s (cond u (magnitude_of s.low) (magnitude_of s.high))
    of_ends true = magnitude_at s s.low (low_in s o)
    of_ends false = magnitude_at s s.high (high_in s o)

pub absolute_reached : (s : Span) → IsOrdered s → ReachesMagnitudes s (absolute_of s)
absolute_reached s o = record { low = low_magnitude s o; high = high_magnitude s o }
