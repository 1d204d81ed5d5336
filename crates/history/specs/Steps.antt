-- What is kept of a quantity: of each of the last 360 steps of ten seconds the least and the greatest of the numbers that were
-- put in during it. No standard says it; it is this project's.
use Rattle.std.specs.Prelude.{ℕ, ◌-◌, ℤ, List, [], ◌∷◌, ◌++◌, length, drop, Option, ⊤}
use Rattle.history.specs.declared.bounds.Bounds.{Bounds}
use Rattle.history.specs.Bounds.{AreBounds}

-- all numbers that were put in: those of the steps that are over, the earliest step first, and those of the step that runs
pub record Put : Type 0 where
  pub over : List (List ℤ)
  pub running : List ℤ

-- what is kept, in the same order
pub record Kept : Type 0 where
  pub over : List (Option Bounds)
  pub running : Option Bounds

-- nothing was put in so far
abbrev pub nothing_put : Put
nothing_put = record { over = []; running = [] }

-- one number more
abbrev pub with_number : ℤ → Put → Put
with_number number put = record { over = put.over; running = number ∷ put.running }

-- the step is over, and the next one runs
abbrev pub next_step : Put → Put
next_step put = record { over = put.over ++ put.running ∷ []; running = [] }

-- the last of some steps, so many at most
abbrev pub last : {A : Type 0} → ℕ → List A → List A
last count steps = drop (length steps - count) steps

-- of each of these steps this is kept
abbrev pub AreKept : List (List ℤ) → List (Option Bounds) → Type 0
AreKept [] [] = ⊤
AreKept [] (bounds ∷ kept) = ⊥
AreKept (numbers ∷ steps) [] = ⊥
AreKept (numbers ∷ steps) (bounds ∷ kept) = AreBounds numbers bounds × AreKept steps kept

-- this is kept of all that was put in: of the last 359 steps that are over, and of the one that runs
abbrev pub IsKeptOf : Put → Kept → Type 0
IsKeptOf put kept = AreKept (last 359 put.over) kept.over × AreBounds put.running kept.running
