-- The members of a span, and what it means that a span holds the results of an operation.
-- IEC 61131-3 edition 2, 2.3.1 table 10 (the range of LINT), 2.5.1.5.4 table 28 (comparison).
use Rattle.std.specs.Prelude.{◌≡◌, ◌≢◌, ◌⊎◌, ◌-◌, ◌^◌, ℤ, pos, neg_ℤ, ◌≤ℤ◌, ◌<ℤ◌, Option, Some, None}
use Rattle.intervals.specs.declared.Span.{Span}
use Rattle.intervals.specs.Ends.{magnitude_of}
use Rattle.intervals.specs.declared.Relation.{Relation}
use Rattle.intervals.specs.declared.Relation.TheVariants.{Gt, Ge, Eq, Ne, Le, Lt}

-- n is a member of the span
abbrev pub IsIn : Span → ℤ → Type 0
IsIn s n = (s.low ≤ℤ n) × (n ≤ℤ s.high)

-- n is a member of what may be no span at all, which has no members
abbrev pub IsInSome : Option Span → ℤ → Type 0
IsInSome None n = ⊥
IsInSome (Some s) n = IsIn s n

-- low is not over high
abbrev pub IsOrdered : Span → Type 0
IsOrdered s = s.low ≤ℤ s.high

-- both ends of the first lie in the second
abbrev pub IsWithin : Span → Span → Type 0
IsWithin s t = IsIn t s.low × IsIn t s.high

-- the numbers of LINT
abbrev pub lint : Span
lint = record { low = neg_ℤ (pos (2 ^ 63)); high = pos (2 ^ 63 - 1) }

-- the span has members, and they are numbers of LINT
pub record IsOfLint (s : Span) : Type 0 where
  pub ordered : IsOrdered s
  pub in_range : IsWithin s lint

-- the last span holds each result of members of the two
pub record HoldsResults (f : ℤ → ℤ → ℤ) (s t r : Span) : Type 0 where
  pub each : (x y : ℤ) → IsIn s x → IsIn t y → IsIn r (f x y)

-- n is the result of members of two spans
pub record IsResult (f : ℤ → ℤ → ℤ) (s t : Span) (n : ℤ) : Type 0 where
  pub left : ℤ
  pub right : ℤ
  pub in_left : IsIn s left
  pub in_right : IsIn t right
  pub equation : f left right ≡ n

-- both ends are results of members, so no lesser span holds all results
pub record ReachesEnds (f : ℤ → ℤ → ℤ) (s t r : Span) : Type 0 where
  pub low : IsResult f s t r.low
  pub high : IsResult f s t r.high

-- the second span holds each absolute value of a member of the first
pub record HoldsMagnitudes (s r : Span) : Type 0 where
  pub each : (x : ℤ) → IsIn s x → IsIn r (magnitude_of x)

-- n is the absolute value of a member
pub record IsMagnitude (s : Span) (n : ℤ) : Type 0 where
  pub number : ℤ
  pub member : IsIn s number
  pub equation : magnitude_of number ≡ n

-- both ends are absolute values of members
pub record ReachesMagnitudes (s r : Span) : Type 0 where
  pub low : IsMagnitude s r.low
  pub high : IsMagnitude s r.high

-- the last span holds each member of the two, and lies in each span that holds both
pub record IsLeastOver (s t r : Span) : Type 0 where
  pub each : (x : ℤ) → IsIn s x ⊎ IsIn t x → IsIn r x
  pub least : (u : Span) → IsWithin s u → IsWithin t u → IsWithin r u

-- x stands in the relation to y
abbrev pub Stands : Relation → ℤ → ℤ → Type 0
Stands Gt x y = y <ℤ x
Stands Ge x y = y ≤ℤ x
Stands Eq x y = x ≡ y
Stands Ne x y = x ≢ y
Stands Le x y = x ≤ℤ y
Stands Lt x y = x <ℤ y

-- x stands in the relation to some member of the span
pub record StandsToSome (o : Relation) (t : Span) (x : ℤ) : Type 0 where
  pub partner : ℤ
  pub in_other : IsIn t partner
  pub stands : Stands o x partner

-- x is an end of the span
abbrev pub IsEnd : Span → ℤ → Type 0
IsEnd s x = (x ≡ s.low) ⊎ (x ≡ s.high)

-- a cut of s leaves x: it stands to some member of t; NE takes away no more than an end of s that is t's one number
abbrev pub IsLeft : Relation → Span → Span → ℤ → Type 0
IsLeft Ne s t x = IsEnd s x → StandsToSome Ne t x
IsLeft o s t x = StandsToSome o t x
