-- What may be left of a span of numbers, and the span of what an operation makes of members.
-- IEC 61131-3 edition 2, 2.5.1.5 (standard functions), 2.5.1.5.4 table 28 (comparison).
use Rattle.std.specs.Prelude.{◌≡◌, refl, Bool, true, false, ◌&&◌, ℤ, pos, int_le, Option, Some, None}
use Rattle.point_types.specs.Value.{int_eq}
use Rattle.point_types.specs.declared.operator.Operator.{Operator}
use Rattle.point_types.specs.declared.operator.Operator.TheVariants as op
use Rattle.intervals.specs.declared.Span.{Span as Interval}
use Rattle.intervals.specs.declared.Relation.{Relation}
use Rattle.intervals.specs.declared.Relation.TheVariants as is
use Rattle.intervals.specs.Ends.{between, sum_of, difference_of, product_of, quotient_of, remainder_of, lesser_of, greater_of, absolute_of, joined_of}
use Rattle.intervals.specs.Cut.{cut_of}
use Rattle.intervals.specs.Members.{IsOfLint}

-- all empty spans are one
pub data Span : Type 0 where
  Empty : Span
  Between : (low high : ℤ) → Span

abbrev pub only : ℤ → Span
only n = Between n n

abbrev pub spanning : Interval → Span
spanning s = Between s.low s.high

abbrev pub left_of : Option Interval → Span
left_of None = Empty
left_of (Some s) = spanning s

-- and back
abbrev pub interval_of : Span → Option Interval
interval_of Empty = None
interval_of (Between a b) = Some (between a b)

pub back_again : (s : Option Interval) → interval_of (left_of s) ≡ s
back_again None = refl
back_again (Some s) = refl

-- where there is one, its ends are numbers of LINT, the low one not over the high one
abbrev pub IsOfLintIfAny : Option Interval → Type 0
IsOfLintIfAny None = Unit {0}
IsOfLintIfAny (Some s) = IsOfLint s

abbrev pub same_span : Span → Span → Bool
same_span Empty Empty = true
same_span Empty (Between a b) = false
same_span (Between a b) Empty = false
same_span (Between a b) (Between c d) = int_eq a c && int_eq b d

-- the least span over both
abbrev pub joined : Span → Span → Span
joined Empty t = t
joined (Between a b) Empty = Between a b
joined (Between a b) (Between c d) = spanning (joined_of (between a b) (between c d))

abbrev pub cut_by : Relation → Span → Span → Span
cut_by o Empty t = Empty
cut_by o (Between a b) Empty = Empty
cut_by o (Between a b) (Between c d) = left_of (cut_of o (between a b) (between c d))

abbrev pub intersected : Span → Span → Span
intersected s t = cut_by is.Eq s t

-- both ends lie in low..high
abbrev pub lies_in : Span → ℤ → ℤ → Bool
lies_in Empty low high = true
lies_in (Between a b) low high = int_le low a && int_le b high

abbrev pub has_member : ℤ → Span → Bool
has_member n Empty = false
has_member n (Between a b) = int_le a n && int_le n b

-- of members of the first and of the second span; for AND and OR 0 is FALSE and 1 is TRUE
abbrev pub operated_ends : Operator → Interval → Interval → Interval
operated_ends op.Add s t = sum_of s t
operated_ends op.Sub s t = difference_of s t
operated_ends op.Mul s t = product_of s t
operated_ends op.Div s t = quotient_of s t
operated_ends op.Mod s t = remainder_of s t
operated_ends op.Min s t = lesser_of s t
operated_ends op.Max s t = greater_of s t
operated_ends op.And s t = lesser_of s t
operated_ends op.Or s t = greater_of s t
operated_ends other s t = between (pos 0) (pos 1)

abbrev pub operated : Operator → Span → Span → Span
operated o Empty t = Empty
operated o (Between a b) Empty = Empty
operated o (Between a b) (Between c d) = spanning (operated_ends o (between a b) (between c d))

abbrev pub absolute_span : Span → Span
absolute_span Empty = Empty
absolute_span (Between a b) = spanning (absolute_of (between a b))

-- how b stands to a where a stands so to b
abbrev pub mirrored : Relation → Relation
mirrored is.Gt = is.Lt
mirrored is.Ge = is.Le
mirrored is.Eq = is.Eq
mirrored is.Ne = is.Ne
mirrored is.Le = is.Ge
mirrored is.Lt = is.Gt

-- how a stands to b where it doesn't stand so
abbrev pub opposite : Relation → Relation
opposite is.Gt = is.Le
opposite is.Ge = is.Lt
opposite is.Eq = is.Ne
opposite is.Ne = is.Eq
opposite is.Le = is.Gt
opposite is.Lt = is.Ge
