-- The words that are no names: those of the grammar, the data types, and the operators with their modifiers.
-- IEC 61131-3 edition 2, 2.1.3 keywords, 2.3.1 data types, 2.5.1.5.1 type conversion, 3.2.2 operators.
use Rattle.std.specs.Prelude.{ℕ, Bool, not, ◌||◌, List, [], ◌∷◌, ◌++◌, codes, bytes_eq, filter, map}
use Rattle.std.specs.List.{list_any, flat_map}

-- PROGRAM .. END_PROGRAM, VAR .. END_VAR and the values of BOOL
abbrev pub grammar_words : List (List ℕ)
grammar_words =
    codes "program" ∷ codes "end_program" ∷ codes "var" ∷ codes "var_external" ∷ codes "end_var" ∷ codes "true" ∷ codes "false" ∷ []

-- the types of whole numbers
abbrev pub whole_types : List (List ℕ)
whole_types =
    codes "sint" ∷ codes "int" ∷ codes "dint" ∷ codes "lint" ∷ codes "usint" ∷ codes "uint" ∷ codes "udint" ∷ []

-- the operators, each with the modifiers that it takes
abbrev pub operator_words : List (List ℕ)
operator_words =
    codes "ld" ∷ codes "ldn" ∷ codes "st" ∷ codes "stn" ∷ codes "s" ∷ codes "r" ∷ codes "jmp" ∷ codes "jmpc" ∷ codes "jmpcn" ∷ codes "ret" ∷ codes "retc" ∷ codes "retcn" ∷ codes "and" ∷ codes "andn" ∷ codes "or" ∷ codes "orn" ∷ codes "xor" ∷ codes "xorn" ∷ codes "add" ∷ codes "sub" ∷ codes "mul" ∷ codes "div" ∷ codes "mod" ∷ codes "gt" ∷ codes "ge" ∷ codes "eq" ∷ codes "ne" ∷ codes "le" ∷ codes "lt" ∷ codes "min" ∷ codes "max" ∷ codes "limit" ∷ codes "sel" ∷ codes "not" ∷ codes "abs" ∷ []

-- the conversions from a type to each other one
abbrev pub conversions_from : List ℕ → List (List ℕ)
conversions_from t = map (λ u. t ++ codes "_to_" ++ u) (filter (λ u. not (bytes_eq t u)) whole_types)

unfoldable pub conversions : List (List ℕ)
conversions = flat_map conversions_from whole_types

unfoldable pub plain_words : List (List ℕ)
plain_words = grammar_words ++ codes "bool" ∷ whole_types ++ operator_words

unfoldable pub is_reserved : List ℕ → Bool
is_reserved w = list_any (bytes_eq w) plain_words || list_any (bytes_eq w) conversions
