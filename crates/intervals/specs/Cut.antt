-- What is left of a span where its members stand in a relation to some member of another one.
-- IEC 61131-3 edition 2, 2.5.1.5.4 table 28 (GT, GE, EQ, NE, LE, LT).
use Rattle.std.specs.Prelude.{ℤ, pos, ◌+ℤ◌, ◌-ℤ◌, Bool, ◌&&◌, int_le, if◌then◌else◌, Option, Some, None}
use Rattle.std.specs.Int.{int_min, int_max}
use Rattle.intervals.specs.declared.Span.{Span}
use Rattle.intervals.specs.declared.Relation.{Relation}
use Rattle.intervals.specs.declared.Relation.TheVariants.{Gt, Ge, Eq, Ne, Le, Lt}
use Rattle.intervals.specs.Ends.{between}

-- whether two numbers are the same
abbrev pub int_same : ℤ → ℤ → Bool
int_same a b = int_le a b && int_le b a

-- the span from low to high, or none where nothing is left
abbrev pub left_between : ℤ → ℤ → Option Span
left_between low high = if int_le low high then Some (between low high) else None

-- the ends, where n is taken away if it is one
abbrev pub low_without : Span → ℤ → ℤ
low_without s n = if int_same s.low n then s.low +ℤ pos 1 else s.low

abbrev pub high_without : Span → ℤ → ℤ
high_without s n = if int_same s.high n then s.high -ℤ pos 1 else s.high

abbrev pub without_end : Span → ℤ → Option Span
without_end s n = left_between (low_without s n) (high_without s n)

-- NE takes away an end where the other span is that one number
abbrev pub cut_of : Relation → Span → Span → Option Span
cut_of Gt s t = left_between (int_max s.low (t.low +ℤ pos 1)) s.high
cut_of Ge s t = left_between (int_max s.low t.low) s.high
cut_of Eq s t = left_between (int_max s.low t.low) (int_min s.high t.high)
cut_of Ne s t = if int_same t.low t.high then without_end s t.low else Some s
cut_of Le s t = left_between s.low (int_min s.high t.high)
cut_of Lt s t = left_between s.low (int_min s.high (t.high -ℤ pos 1))
