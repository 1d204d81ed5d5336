-- What declarations make of their names: types, ranges, start values, and which names may still be declared.
-- IEC 61131-3 edition 2, 2.3.3.1 subranges, 2.4.3 declaration and initialization of variables.
use Rattle.std.specs.Prelude.{◌≡◌, ℕ, Bool, true, false, ◌&&◌, ◌||◌, ℤ, pos, List, [], ◌∷◌, ◌++◌, length, if◌then◌else◌, Option, Some, None, refl, bytes_eq, nat_eq, nat_le, nat_lt}
use Rattle.std.specs.List.{list_any}
use Rattle.point_types.specs.declared.il_type.IlType.{IlType}
use Rattle.point_types.specs.Value.{low_of, high_of, is_ranged, is_bool, code_of, number_of}
use Rattle.il_reader.specs.declared.token.Keyword.TheVariants as word
use Rattle.il_reader.specs.declared.token.Token.{Token}
use Rattle.il_reader.specs.declared.token.Token.TheVariants as token
use Rattle.il_reader.specs.declared.tree.External.{External}
use Rattle.il_reader.specs.declared.tree.Variable.{Variable}
use Rattle.il_reader.specs.declared.scope.Scope.{Scope}
use Rattle.il_reader.specs.declared.typing.Entry.{Entry}
use Rattle.il_reader.specs.declared.typing.Typing.{Typing}
use Rattle.il_reader.specs.Limit.{most_names}

-- Names.

abbrev pub among : List ℕ → List (List ℕ) → Bool
among n names = list_any (bytes_eq n) names

-- the first name is the second with _ok after it, as that of the presence of an external is
abbrev pub is_presence : List ℕ → List ℕ → Bool
is_presence n [] = bytes_eq n (95 ∷ 111 ∷ 107 ∷ [])
is_presence [] (b ∷ p) = false
is_presence (c ∷ n) (b ∷ p) = nat_eq b c && is_presence n p

-- some name's presence has this name
abbrev pub is_among_presences : List ℕ → List (List ℕ) → Bool
is_among_presences n names = list_any (λ p. is_presence n p) names

-- some name is that of this name's presence
abbrev pub has_presence_among : List ℕ → List (List ℕ) → Bool
has_presence_among n names = list_any (λ p. is_presence p n) names

-- a name that is declared, or by which an external and its presence would have two meanings
abbrev pub is_taken : Bool → List ℕ → Scope → Bool
is_taken external n s =
    among n s.variables || among n s.externals || is_among_presences n s.externals || (external && (has_presence_among n s.variables || has_presence_among n s.externals))

-- there is room for one more variable or external, of each of which so many are declared at most
abbrev pub has_room : Bool → Scope → Bool
has_room false s = nat_lt (length s.variables) most_names && nat_le (length s.externals) most_names
has_room true s = nat_le (length s.variables) most_names && nat_lt (length s.externals) most_names

abbrev pub with_name : Bool → Scope → List ℕ → Scope
with_name false s n = record { variables = s.variables ++ n ∷ []; externals = s.externals }
with_name true s n = record { variables = s.variables; externals = s.externals ++ n ∷ [] }

abbrev pub empty_scope : Scope
empty_scope = record { variables = []; externals = [] }

-- Ranges and start values.

-- what a literal of a declaration stands for: TRUE or FALSE of a BOOL, else a number, where it is typed of that type
abbrev pub truth_value : Token → Option ℤ
truth_value (token.Keyword (word.Truth b)) = Some (number_of b)
truth_value _ = None

abbrev pub whole_value : IlType → Token → Option ℤ
whole_value k (token.Decimal n) = Some n
whole_value k (token.Number n) = Some n
whole_value k (token.Typed j n) = if nat_eq (code_of j) (code_of k) then Some n else None
whole_value k _ = None

abbrev pub value_of : IlType → Token → Option ℤ
value_of k t = if is_bool k then truth_value t else whole_value k t

abbrev pub ranged_typing : (kind : IlType) (low high start : ℤ) (b : Bool) → is_ranged kind low high start ≡ b → Option Typing
ranged_typing kind low high start true e = Some (record { kind = kind; low = low; high = high; start = start; ranged = e })
ranged_typing kind low high start false e = None

-- a type with a range in it, and a start value in that
abbrev pub typing_of : IlType → ℤ → ℤ → ℤ → Option Typing
typing_of kind low high start = ranged_typing kind low high start (is_ranged kind low high start) refl

-- a type without a subrange starts with 0
abbrev pub whole : IlType → Option Typing
whole kind = typing_of kind (low_of kind) (high_of kind) (pos 0)

-- a subrange whose low end is known; it starts with that
abbrev pub begun : IlType → ℤ → Option Typing
begun kind low = typing_of kind low (high_of kind) low

-- a subrange with its high end
abbrev pub bounded : Typing → ℤ → Option Typing
bounded y high = typing_of y.kind y.low high y.low

-- a range with a start value
abbrev pub started : Typing → ℤ → Option Typing
started y start = typing_of y.kind y.low y.high start

-- what a literal makes, where it stands for a number
abbrev pub made : (ℤ → Option Typing) → Option ℤ → Option Typing
made make (Some n) = make n
made make None = None

-- What is declared.

abbrev pub variable_of : Typing → Entry → Variable
variable_of t e = record { line = e.line; var = record { name = e.name; kind = t.kind; low = t.low; high = t.high; start = t.start; ranged = t.ranged } }

abbrev pub external_of : IlType → Entry → External
external_of k e = record { line = e.line; name = e.name; kind = k }
