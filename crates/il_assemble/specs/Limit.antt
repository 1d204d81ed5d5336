-- How much a program may have: counted jumps, bytes of code. How many names of each kind and parentheses in one another
-- is the reader's limit (il_reader `Limit`).
-- IEC 61131-3 (edition 2), 3.2 leaves these numbers to the implementation.
use Rattle.std.specs.Prelude.{ℕ}

abbrev pub most_counted : ℕ
most_counted = 256

abbrev pub most_code : ℕ
most_code = 65535
