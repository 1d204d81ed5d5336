-- How much a text may have: bytes, names of each kind, parentheses in one another, turns of a counted jump. How many
-- characters a name has at most stands in point_types `Name`.
-- IEC 61131-3 (edition 2), 2.1.2 and 3.2 leave these numbers to the implementation.
use Rattle.std.specs.Prelude.{ℕ}

abbrev pub most_bytes : ℕ
most_bytes = 1048576

abbrev pub most_names : ℕ
most_names = 1024

abbrev pub most_nested : ℕ
most_nested = 100

abbrev pub most_turns : ℕ
most_turns = 255
