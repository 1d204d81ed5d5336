-- A series as a list of JSON (RFC 8259): a point for each of the last steps, the earliest first.
use Rattle.std.specs.Prelude.{ℕ, int_lt, List, ◌++◌, Option, Some, None, codes, flat_map, if◌then◌else◌}
use Rattle.std.specs.Fmt.{signed_decimal}
use Rattle.history.specs.declared.bounds.Bounds.{Bounds}
use Rattle.history.specs.Steps.{Kept}

-- [LEAST,GREATEST]
abbrev pub pair : Bounds → List ℕ
pair bounds = codes "[" ++ signed_decimal bounds.least ++ codes "," ++ signed_decimal bounds.greatest ++ codes "]"

-- a point: null, a number, or the least and the greatest of several
abbrev pub point : Option Bounds → List ℕ
point None = codes "null"
point (Some bounds) = if int_lt bounds.least bounds.greatest then pair bounds else signed_decimal bounds.least

abbrev pub with_comma : Option Bounds → List ℕ
with_comma bounds = point bounds ++ codes ","

-- all points, that of the step that runs at the end
abbrev pub points : Kept → List ℕ
points kept = codes "[" ++ flat_map with_comma kept.over ++ point kept.running ++ codes "]"
