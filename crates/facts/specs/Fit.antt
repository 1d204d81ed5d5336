-- Which states of the machine a fact covers.
-- IEC 61131-3 edition 2, 3.2.2 (the current result and deferred values).
use Rattle.std.specs.Prelude.{◌≡◌, ℕ, ℤ, pos, ◌≤ℤ◌, List, [], ◌∷◌, Bool, true, false, Option, Some, None, slice_get, option_and_then}
use Rattle.point_types.specs.declared.reading.Reading.{Reading}
use Rattle.point_types.specs.declared.reading.Reading.TheVariants as reading
use Rattle.point_types.specs.Value.{Value, low_of, high_of}
use Rattle.facts.specs.Span.{Span, Empty, Between}
use Rattle.facts.specs.Fact.{Fact, AbstractValue, Consequences, Origin, OfVariable, OfInput}
use Rattle.scan_code.specs.Machine.{State}

abbrev pub IsIn : Span → ℤ → Type 0
IsIn Empty n = ⊥
IsIn (Between a b) n = (a ≤ℤ n) × (n ≤ℤ b)

-- the number of a reading, if it has one
abbrev pub reading_number : Option Reading → Option ℤ
reading_number (Some (reading.Value n)) = Some n
reading_number (Some (reading.Default n c)) = Some n
reading_number (Some (reading.Absent c)) = None
reading_number None = None

abbrev pub HasOwnValue : Option Reading → Type 0
HasOwnValue (Some (reading.Value n)) = Unit {0}
HasOwnValue (Some (reading.Default n c)) = ⊥
HasOwnValue (Some (reading.Absent c)) = ⊥
HasOwnValue None = ⊥

-- a fact's span is not empty, and where there is a number it lies in it
abbrev pub LiesIn : Option Span → Option ℤ → Type 0
LiesIn None n = Unit {0}
LiesIn (Some Empty) n = ⊥
LiesIn (Some (Between a b)) None = Unit {0}
LiesIn (Some (Between a b)) (Some n) = IsIn (Between a b) n

-- what a truth says of a span: there is a number, and it lies in it
abbrev pub HasIn : Option Span → Option ℤ → Type 0
HasIn None n = Unit {0}
HasIn (Some s) None = ⊥
HasIn (Some s) (Some n) = IsIn s n

abbrev pub IfListed : Option Bool → Type 0 → Type 0
IfListed (Some true) P = P
IfListed (Some false) P = Unit {0}
IfListed None P = Unit {0}

abbrev pub span_at : List (Option Span) → ℕ → Option Span
span_at xs i = option_and_then (λ s. s) (slice_get xs i)

-- all that a set says is true of these variables and readings
pub record Hold (variables : List ℤ) (readings : List Reading) (c : Consequences) : Type 0 where
  pub of_variables : (i : ℕ) → HasIn (span_at c.variables i) (slice_get variables i)
  pub of_inputs : (i : ℕ) → HasIn (span_at c.inputs i) (reading_number (slice_get readings i))
  pub present : (i : ℕ) → IfListed (slice_get c.present i) (HasOwnValue (slice_get readings i))

abbrev pub origin_number : List ℤ → List Reading → Origin → Option ℤ
origin_number variables readings (OfVariable i) = slice_get variables i
origin_number variables readings (OfInput i) = reading_number (slice_get readings i)

abbrev pub EqualsOrigin : List ℤ → List Reading → Option Origin → ℤ → Type 0
EqualsOrigin variables readings None n = Unit {0}
EqualsOrigin variables readings (Some o) n = origin_number variables readings o ≡ Some n

pub record FitsValue (variables : List ℤ) (readings : List Reading) (k : AbstractValue) (v : Value) : Type 0 where
  pub kind : v.kind ≡ k.kind
  pub span : IsIn k.span v.number
  pub of_type : IsIn (Between (low_of k.kind) (high_of k.kind)) v.number
  pub origin : EqualsOrigin variables readings k.origin v.number
  pub where_true : v.number ≡ pos 1 → Hold variables readings k.where_true
  pub where_false : v.number ≡ pos 0 → Hold variables readings k.where_false

-- a value that is nothing in the fact may be any, or none
abbrev pub FitsResult : List ℤ → List Reading → Option AbstractValue → Option Value → Type 0
FitsResult variables readings None v = Unit {0}
FitsResult variables readings (Some k) None = ⊥
FitsResult variables readings (Some k) (Some v) = FitsValue variables readings k v

abbrev pub FitsDeferred : List ℤ → List Reading → List (Option AbstractValue) → List Value → Type 0
FitsDeferred variables readings [] [] = Unit {0}
FitsDeferred variables readings [] (v ∷ vs) = ⊥
FitsDeferred variables readings (k ∷ ks) [] = ⊥
FitsDeferred variables readings (k ∷ ks) (v ∷ vs) = FitsResult variables readings k (Some v) × FitsDeferred variables readings ks vs

pub record Fits (readings : List Reading) (f : Fact) (s : State) : Type 0 where
  pub variables : (i : ℕ) → LiesIn (slice_get f.variables i) (slice_get s.variables i)
  pub inputs : (i : ℕ) → LiesIn (slice_get f.inputs i) (reading_number (slice_get readings i))
  pub present : (i : ℕ) → IfListed (slice_get f.present i) (HasOwnValue (slice_get readings i))
  pub deferred : FitsDeferred s.variables readings f.deferred s.deferred
  pub result : FitsResult s.variables readings f.result s.result
