-- The ends of spans, as they are told.
-- IEC 61131-3 edition 2, 2.3.1 table 10 (ranges), 2.5.1.5.2 table 24 (DIV, MOD).
use Rattle.std.specs.Prelude.{ℤ, pos, ◌&&◌, if◌then◌else◌, Option, Some, None}
use Rattle.point_types.specs.declared.operator.Operator.{Operator}
use Rattle.facts.specs.Fitting.{divides}
use Rattle.facts.specs.Span.{Span, Empty, Between, absolute_span, has_member, operated}

-- the least and the greatest member
abbrev pub ends : Span → Option (ℤ × ℤ)
ends Empty = None
ends (Between a b) = Some (a, b)

-- of what an operator makes of members, before it is held against a type; none where the divisor may be 0
abbrev pub made_ends : Operator → Span → Span → Option (ℤ × ℤ)
made_ends o s t = if divides o && has_member (pos 0) t then None else ends (operated o s t)

-- of what ABS makes of members
abbrev pub absolute_ends : Span → Option (ℤ × ℤ)
absolute_ends s = ends (absolute_span s)
