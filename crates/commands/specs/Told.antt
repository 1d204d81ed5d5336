-- What the program tells: lines, and a status.
-- No standard says what is printed; lines and statuses are this project's.
use Rattle.std.specs.Prelude.{◌≡◌, ◌⊎◌, ℕ, ◌<◌, List, ◌++◌, length, Option, Result, Ok, Err}
use Rattle.std.specs.Io.KnownBytes.{Appends}

pub record Told : Type 0 where
  pub lines : List ℕ
  pub status : ℕ

abbrev pub refused_with : List ℕ → Told
refused_with lines = record { lines = lines; status = 1 }

-- Some of the lines went out, and then a write failed: the rest, which isn't empty, did not.
pub record IsCut (old new : Option (List ℕ)) (lines : List ℕ) : Type 0 where
  pub front : List ℕ
  pub rest : List ℕ
  pub split : lines ≡ front ++ rest
  pub unwritten : 0 < length rest
  pub went : Appends old new front

-- all of the lines went out, or a write failed
abbrev pub WritesFront : {E : Type 0} → Option (List ℕ) → Option (List ℕ) → List ℕ → Result (Unit {0}) E → Type 0
WritesFront old new lines (Ok _) = Appends old new lines
WritesFront old new lines (Err _) = IsCut old new lines

-- A writer's bytes before and after, and the status that was given: that of the lines, or 1 where a write failed.
abbrev pub IsTold : Option (List ℕ) → Option (List ℕ) → Told → ℕ → Type 0
IsTold old new told status = (Appends old new told.lines × (status ≡ told.status)) ⊎ (IsCut old new told.lines × (status ≡ 1))
