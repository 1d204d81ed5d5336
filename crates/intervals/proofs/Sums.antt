-- Operations whose ends are those of one pair of ends each: sums, differences, lesser and greater ones, and both spans together.
use Rattle.std.proofs.Common.{◌≡◌, ◌⊎◌, inl, inr, refl, ℤ, ◌+ℤ◌, ◌-ℤ◌, arith}
use Rattle.std.proofs.lemmas.Int.{ints, clamps}
use Rattle.std.specs.Int.{int_min, int_max}
use Rattle.intervals.specs.declared.Span.{Span}
use Rattle.intervals.specs.Ends.{between, span_of_four, sum_of, difference_of, lesser_of, greater_of, joined_of}
use Rattle.intervals.specs.Members.{IsIn, IsOrdered, IsOfLint, lint, HoldsResults, IsResult, ReachesEnds, IsLeastOver}

-- equal ends make equal spans
pub same_ends : (a b c d : ℤ) → a ≡ c → b ≡ d → between a b ≡ between c d
same_ends a b c d p q = cc

pub same_four : (a b c d p q r s : ℤ) → a ≡ p → b ≡ q → c ≡ r → d ≡ s → span_of_four a b c d ≡ span_of_four p q r s
same_four a b c d p q r s e f g h = cc

pub least_of_four : (a b c d p q r : ℤ) → p ≡ int_min a b → q ≡ int_min c d → r ≡ int_min p q → r ≡ int_min (int_min a b) (int_min c d)
least_of_four a b c d p q r e f g = cc

pub greatest_of_four : (a b c d p q r : ℤ) → p ≡ int_max a b → q ≡ int_max c d → r ≡ int_max p q → r ≡ int_max (int_max a b) (int_max c d)
greatest_of_four a b c d p q r e f g = cc

pub lesser_same : (a b p q r : ℤ) → r ≡ int_min a b → a ≡ p → b ≡ q → r ≡ int_min p q
lesser_same a b p q r e f g = cc

pub greater_same : (a b p q r : ℤ) → r ≡ int_max a b → a ≡ p → b ≡ q → r ≡ int_max p q
greater_same a b p q r e f g = cc

pub low_in : (s : Span) → IsOrdered s → IsIn s s.low
low_in s p = (omega (arith, ints), p)

pub high_in : (s : Span) → IsOrdered s → IsIn s s.high
high_in s p = (p, omega (arith, ints))

pub result_at : (f : ℤ → ℤ → ℤ) (s t : Span) (a b : ℤ) → IsIn s a → IsIn t b → IsResult f s t (f a b)
result_at f s t a b p q = record { left = a; right = b; in_left = p; in_right = q; equation = refl }

pub sum_holds : (s t : Span) → HoldsResults (λ x y. x +ℤ y) s t (sum_of s t)
sum_holds s t = record { each = λ x y p q. (omega (arith, ints, p.0, q.0), omega (arith, ints, p.1, q.1)) }

pub sum_reached : (s t : Span) → IsOrdered s → IsOrdered t → ReachesEnds (λ x y. x +ℤ y) s t (sum_of s t)
sum_reached s t p q = record {
  low = result_at (λ x y. x +ℤ y) s t s.low t.low (low_in s p) (low_in t q);
  high = result_at (λ x y. x +ℤ y) s t s.high t.high (high_in s p) (high_in t q);
}

pub difference_holds : (s t : Span) → HoldsResults (λ x y. x -ℤ y) s t (difference_of s t)
difference_holds s t = record { each = λ x y p q. (omega (arith, ints, p.0, q.1), omega (arith, ints, p.1, q.0)) }

pub difference_reached : (s t : Span) → IsOrdered s → IsOrdered t → ReachesEnds (λ x y. x -ℤ y) s t (difference_of s t)
difference_reached s t p q = record {
  low = result_at (λ x y. x -ℤ y) s t s.low t.high (low_in s p) (high_in t q);
  high = result_at (λ x y. x -ℤ y) s t s.high t.low (high_in s p) (low_in t q);
}

pub lesser_holds : (s t : Span) → HoldsResults int_min s t (lesser_of s t)
lesser_holds s t = record { each = λ x y p q. (omega (arith, ints, clamps, p.0, q.0), omega (arith, ints, clamps, p.1, q.1)) }

pub lesser_reached : (s t : Span) → IsOrdered s → IsOrdered t → ReachesEnds int_min s t (lesser_of s t)
lesser_reached s t p q = record {
  low = result_at int_min s t s.low t.low (low_in s p) (low_in t q);
  high = result_at int_min s t s.high t.high (high_in s p) (high_in t q);
}

pub greater_holds : (s t : Span) → HoldsResults int_max s t (greater_of s t)
greater_holds s t = record { each = λ x y p q. (omega (arith, ints, clamps, p.0, q.0), omega (arith, ints, clamps, p.1, q.1)) }

pub greater_reached : (s t : Span) → IsOrdered s → IsOrdered t → ReachesEnds int_max s t (greater_of s t)
greater_reached s t p q = record {
  low = result_at int_max s t s.low t.low (low_in s p) (low_in t q);
  high = result_at int_max s t s.high t.high (high_in s p) (high_in t q);
}

joined_each : (s t : Span) (x : ℤ) → IsIn s x ⊎ IsIn t x → IsIn (joined_of s t) x
joined_each s t x (inl p) = (omega (arith, ints, clamps, p.0), omega (arith, ints, clamps, p.1))
joined_each s t x (inr p) = (omega (arith, ints, clamps, p.0), omega (arith, ints, clamps, p.1))

lesser_in : (u : Span) (a b : ℤ) → IsIn u a → IsIn u b → IsIn u (int_min a b)
lesser_in u a b p q = (omega (arith, ints, clamps, p.0, q.0), omega (arith, ints, clamps, p.1, q.1))

greater_in : (u : Span) (a b : ℤ) → IsIn u a → IsIn u b → IsIn u (int_max a b)
greater_in u a b p q = (omega (arith, ints, clamps, p.0, q.0), omega (arith, ints, clamps, p.1, q.1))

pub joined_is_least : (s t : Span) → IsLeastOver s t (joined_of s t)
joined_is_least s t = record { each = joined_each s t; least = λ u p q. (lesser_in u s.low t.low p.0 q.0, greater_in u s.high t.high p.1 q.1) }

pub lesser_of_lint : (s t : Span) → IsOfLint s → IsOfLint t → IsOfLint (lesser_of s t)
lesser_of_lint s t p q = record {
  ordered = omega (arith, ints, clamps, p.ordered, q.ordered);
  in_range = (lesser_in lint s.low t.low p.in_range.0 q.in_range.0, lesser_in lint s.high t.high p.in_range.1 q.in_range.1);
}

pub greater_of_lint : (s t : Span) → IsOfLint s → IsOfLint t → IsOfLint (greater_of s t)
greater_of_lint s t p q = record {
  ordered = omega (arith, ints, clamps, p.ordered, q.ordered);
  in_range = (greater_in lint s.low t.low p.in_range.0 q.in_range.0, greater_in lint s.high t.high p.in_range.1 q.in_range.1);
}

pub joined_of_lint : (s t : Span) → IsOfLint s → IsOfLint t → IsOfLint (joined_of s t)
joined_of_lint s t p q = record {
  ordered = omega (arith, ints, clamps, p.ordered, q.ordered);
  in_range = (lesser_in lint s.low t.low p.in_range.0 q.in_range.0, greater_in lint s.high t.high p.in_range.1 q.in_range.1);
}
