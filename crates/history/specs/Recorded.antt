-- What is kept of several quantities. No standard says it; it is this project's.
use Rattle.std.specs.Prelude.{◌≡◌, ℕ, ◌-◌, ◌/◌, zero, suc, ℤ, List, [], ◌∷◌, map, slice_get, Some, ⊤}
use Rattle.history.specs.Steps.{IsKeptOf, Kept, Put, next_step, with_number}

-- quantities, each with its name, and how many steps are over
pub record Recorded : Type 0 where
  pub names : List (List ℕ)
  pub series : List Kept
  pub over : ℕ

-- this is kept of each of them
abbrev pub AreKeptOf : List Put → List Kept → Type 0
AreKeptOf [] [] = ⊤
AreKeptOf [] (kept ∷ more) = ⊥
AreKeptOf (put ∷ puts) [] = ⊥
AreKeptOf (put ∷ puts) (kept ∷ more) = IsKeptOf put kept × AreKeptOf puts more

-- a number more for that of this place, where there is one
abbrev pub number_at : ℕ → ℤ → List Put → List Put
number_at place number [] = []
number_at zero number (put ∷ puts) = with_number number put ∷ puts
number_at (suc place) number (put ∷ puts) = put ∷ number_at place number puts

-- so many steps later
abbrev pub steps_later : ℕ → List Put → List Put
steps_later zero puts = puts
steps_later (suc count) puts = map next_step (steps_later count puts)

-- what was put in, of quantities of which so many steps are over, and so many milliseconds after the start: a step takes ten seconds
abbrev pub put_by : (over now : ℕ) → List Put → List Put
put_by over now puts = steps_later (now / 10000 - over) puts

-- one of these quantities has this name, and of it this is kept
abbrev pub IsNamed : List ℕ → Recorded → Kept → Type 0
IsNamed name recorded kept = (place : ℕ) × (slice_get recorded.names place ≡ Some name) × (slice_get recorded.series place ≡ Some kept)
