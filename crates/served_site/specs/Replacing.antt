-- With which numbers the variables of a program begin that is put in for the one that runs.
-- IEC 61131-3 edition 2, 2.4.2 (initial values).
use Rattle.std.specs.Prelude.{nat_eq, Bool, ◌&&◌, ℤ, List, map, Option, option_and_then, slice_get}
use Rattle.std.specs.List.{position}
use Rattle.std.specs.Str.{bytes_eq}
use Rattle.point_types.specs.Value.{code_of}
use Rattle.point_types.specs.declared.variable.Var.{Var}

-- of one name and one type
abbrev pub is_same : Var → Var → Bool
is_same v w = bytes_eq v.name w.name && nat_eq (code_of v.kind) (code_of w.kind)

-- the number of the variable, among these with these numbers, that is of the same name and type
abbrev pub number_of : (old : List Var) → (numbers : List ℤ) → Var → Option ℤ
number_of old numbers v = option_and_then (λ i. slice_get numbers i) (position (is_same v) old)

-- what goes over to each variable of the new program from those of the old one
abbrev pub carried : (new old : List Var) → (numbers : List ℤ) → List (Option ℤ)
carried new old numbers = map (λ v. number_of old numbers v) new
