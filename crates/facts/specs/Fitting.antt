-- inner: spans of results that lie in the range of a type, and divisors that are tested first.
-- IEC 61131-3 edition 2, 2.3.1 table 10 (ranges), 2.5.1.5.2 table 24 (DIV, MOD).
use Rattle.std.specs.Prelude.{Bool, true, false, Option, Some, None, Result, Ok, Err, if◌then◌else◌}
use Rattle.point_types.specs.declared.il_type.IlType.{IlType}
use Rattle.point_types.specs.declared.operator.Operator.{Operator}
use Rattle.point_types.specs.declared.operator.Operator.TheVariants as op
use Rattle.point_types.specs.Value.{low_of, high_of}
use Rattle.facts.specs.declared.abstract_value.AbstractValue.{AbstractValue}
use Rattle.facts.specs.declared.refusal.RefusalKind.{RefusalKind}
use Rattle.facts.specs.declared.refusal.RefusalKind.TheVariants.{Overflow}
use Rattle.facts.specs.Flow.{Context, plain_value}
use Rattle.facts.specs.Span.{Span, lies_in}

-- the span, where it lies in the range of the type
abbrev pub fitting : IlType → Span → Option Span
fitting kind s = if lies_in s (low_of kind) (high_of kind) then Some s else None

-- these want a divisor that isn't 0
abbrev pub divides : Operator → Bool
divides op.Div = true
divides op.Mod = true
divides other = false

-- the plain value of such a span
abbrev pub within_type : Context → IlType → Option Span → Result AbstractValue RefusalKind
within_type c kind None = Err Overflow
within_type c kind (Some s) = Ok (plain_value c kind s)
