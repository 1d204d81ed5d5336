-- inner: spans that are those at entry, but for some.
-- IEC 61131-3 edition 2, 2.4.3 (variables); how spans are kept is this project's.
use Rattle.std.specs.Prelude.{◌≡◌, ℕ, List, [], ◌∷◌, Option, Some, None, slice_get, if◌then◌else◌}
use Rattle.facts.specs.Span.{Span, Empty, same_span}

-- past the end of the spans at entry no number is left
abbrev pub or_empty : Option Span → Span
or_empty None = Empty
or_empty (Some s) = s

abbrev pub at_entry : List Span → ℕ → Span
at_entry spans n = or_empty (slice_get spans n)

abbrev pub after_first : List Span → List Span
after_first [] = []
after_first (s ∷ spans) = spans

-- a span that is kept, else the one at entry
abbrev pub shown : Span → Option Span → Span
shown entry None = entry
shown entry (Some kept) = kept

abbrev pub overlaid : List Span → List (Option Span) → List Span
overlaid entry [] = []
overlaid entry (k ∷ ks) = shown (at_entry entry 0) k ∷ overlaid (after_first entry) ks

-- what is kept of a span
abbrev pub change : Span → Span → Option Span
change entry s = if same_span entry s then None else Some s

abbrev pub IsChange : Span → Option Span → Type 0
IsChange entry None = Unit {0}
IsChange entry (Some kept) = entry ≡ kept → ⊥

-- each span that is kept differs from the one at entry
abbrev pub AreChanges : List Span → List (Option Span) → Type 0
AreChanges entry [] = Unit {0}
AreChanges entry (k ∷ ks) = IsChange (at_entry entry 0) k × AreChanges (after_first entry) ks
