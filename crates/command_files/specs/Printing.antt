-- What is printed where nothing more is known of it.
-- No standard says what is printed; lines and statuses are this project's.
use Rattle.std.specs.Prelude.{◌≢◌, ℕ, List, Option}
use Rattle.std.specs.Io.KnownBytes.{Appends}

-- what was printed stays, and more may stand after it
abbrev pub Grows : Option (List ℕ) → Option (List ℕ) → Type 0
Grows old new = (more : List ℕ) × Appends old new more

-- nothing was done: that isn't well, and what was printed stays
abbrev pub Fails : Option (List ℕ) → Option (List ℕ) → ℕ → Type 0
Fails old new status = (status ≢ 0) × Grows old new
