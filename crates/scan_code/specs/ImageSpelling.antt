-- The bytes of an image: mark, version, three counts, the variables, the tags, the code; numbers are big-endian.
-- IEC 61131-3 edition 2 leaves the form of compiled programs open; this is this project's own.
use Rattle.std.specs.Prelude.{ℕ, ℤ, List, [], ◌∷◌, ◌++◌, length}
use Rattle.point_types.specs.Value.{code_of}
use Rattle.point_types.specs.declared.variable.Var.{Var}
use Rattle.scan_code.specs.declared.image.Tag.{Tag}
use Rattle.scan_code.specs.Spelling.{place_bytes, bytes_of, unsigned, byte_of}
use Rattle.scan_code.specs.Image.{Image}

-- ILSC
abbrev pub mark : List ℕ
mark = 73 ∷ 76 ∷ 83 ∷ 67 ∷ []

abbrev pub spelled_name : List ℕ → List ℕ
spelled_name name = length name ∷ name

-- two's complement in eight bytes
unfoldable pub spelled_number : ℤ → List ℕ
spelled_number n = bytes_of 8 (unsigned n) []

abbrev pub spelled_range : Var → List ℕ
spelled_range v = code_of v.kind ∷ (spelled_number v.low ++ (spelled_number v.high ++ spelled_number v.start))

-- name, type, low, high, start
abbrev pub spelled_var : Var → List ℕ
spelled_var v = spelled_name v.name ++ spelled_range v

-- name, direction (0 input, 1 output), type
abbrev pub spelled_tag : Tag → List ℕ
spelled_tag t = spelled_name t.name ++ (byte_of t.output ∷ code_of t.kind ∷ [])

abbrev pub spelled_vars : List Var → List ℕ
spelled_vars [] = []
spelled_vars (v ∷ vs) = spelled_var v ++ spelled_vars vs

abbrev pub spelled_tags : List Tag → List ℕ
spelled_tags [] = []
spelled_tags (t ∷ ts) = spelled_tag t ++ spelled_tags ts

abbrev pub header : Image → List ℕ
header image = mark ++ (image.version ∷ place_bytes (length image.vars) ++ (place_bytes (length image.tags) ++ place_bytes (length image.code)))

abbrev pub spelled_image : Image → List ℕ
spelled_image image = header image ++ (spelled_vars image.vars ++ (spelled_tags image.tags ++ image.code))
