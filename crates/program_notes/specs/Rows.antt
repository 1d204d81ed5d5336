-- The instructions of a program with their lines and what is told before them.
-- IEC 61131-3 edition 2, 3.2.1 (instructions are done in order, or go on at a label).
use Rattle.std.specs.Prelude.{ℕ, ◌+◌, List, [], ◌∷◌, Option, Some, None, slice_get}
use Rattle.scan_code.specs.declared.op.Op.{Op}
use Rattle.facts.specs.Flow.{Context}
use Rattle.verifier.specs.Known.{all_told}
use Rattle.verifier.specs.declared.told.Standing.{Standing}
use Rattle.program_notes.specs.declared.rows.Row.{Row}

abbrev pub or_zero : Option ℕ → ℕ
or_zero None = 0
or_zero (Some line) = line

abbrev pub row_at : List ℕ → ℕ → Op → Option Standing → Row
row_at lines n op known = record { line = or_zero (slice_get lines n); number = n; op = op; known = known }

-- instructions that are numbered from n on, and what is told before those that are judged
abbrev pub rows_from : List ℕ → ℕ → List (ℕ × Op) → List Standing → List Row
rows_from lines n [] told = []
rows_from lines n (entry ∷ listing) [] = row_at lines n entry.1 None ∷ rows_from lines (n + 1) listing []
rows_from lines n (entry ∷ listing) (standing ∷ told) = row_at lines n entry.1 (Some standing) ∷ rows_from lines (n + 1) listing told

abbrev pub all_rows : List ℕ → Context → List Row
all_rows lines c = rows_from lines 0 c.listing (all_told c)
