-- The ends of the span of an operation's results.
-- IEC 61131-3 edition 2, 2.5.1.5.2 tables 23 and 24 (ABS, ADD, SUB, MUL, DIV, MOD), 2.5.1.5.4 table 27 (MIN, MAX).
use Rattle.std.specs.Prelude.{ℤ, pos, neg_ℤ, ◌+ℤ◌, ◌-ℤ◌, ◌*ℤ◌, ◌&&◌, int_lt, int_le, int_div, unsigned_abs, if◌then◌else◌}
use Rattle.std.specs.Int.{int_min, int_max}
use Rattle.intervals.specs.declared.Span.{Span}

abbrev pub between : ℤ → ℤ → Span
between low high = record { low = low; high = high }

-- a number without its sign
abbrev pub magnitude_of : ℤ → ℤ
magnitude_of n = pos (unsigned_abs n)

abbrev pub sum_of : Span → Span → Span
sum_of s t = between (s.low +ℤ t.low) (s.high +ℤ t.high)

abbrev pub difference_of : Span → Span → Span
difference_of s t = between (s.low -ℤ t.high) (s.high -ℤ t.low)

-- from the least to the greatest of four numbers
abbrev pub span_of_four : ℤ → ℤ → ℤ → ℤ → Span
span_of_four a b c d = between (int_min (int_min a b) (int_min c d)) (int_max (int_max a b) (int_max c d))

-- from the least to the greatest result on the four pairs of ends
abbrev pub over_ends : (ℤ → ℤ → ℤ) → Span → Span → Span
over_ends f s t = span_of_four (f s.low t.low) (f s.low t.high) (f s.high t.low) (f s.high t.high)

abbrev pub product_of : Span → Span → Span
product_of s t = over_ends (λ x y. x *ℤ y) s t

abbrev pub quotient_of : Span → Span → Span
quotient_of s t = over_ends int_div s t

-- the greatest magnitude of a remainder by a member
abbrev pub remainder_bound : Span → ℤ
remainder_bound t = int_max (magnitude_of t.low) (magnitude_of t.high) -ℤ pos 1

-- a remainder has the sign of what was divided, and is no further from 0
abbrev pub remainder_of : Span → Span → Span
remainder_of s t =
    let m = remainder_bound t in
    between
    (if int_lt s.low (pos 0) then int_max s.low (neg_ℤ m) else pos 0)
    (if int_lt (pos 0) s.high then int_min s.high m else pos 0)

abbrev pub lesser_of : Span → Span → Span
lesser_of s t = between (int_min s.low t.low) (int_min s.high t.high)

abbrev pub greater_of : Span → Span → Span
greater_of s t = between (int_max s.low t.low) (int_max s.high t.high)

-- the least magnitude of a member: 0 where that is one, else that of the nearer end
abbrev pub least_magnitude : Span → ℤ
least_magnitude s =
    if int_le s.low (pos 0) && int_le (pos 0) s.high then pos 0
    else int_min (magnitude_of s.low) (magnitude_of s.high)

abbrev pub absolute_of : Span → Span
absolute_of s = between (least_magnitude s) (int_max (magnitude_of s.low) (magnitude_of s.high))

-- the least span over both
abbrev pub joined_of : Span → Span → Span
joined_of s t = between (int_min s.low t.low) (int_max s.high t.high)
