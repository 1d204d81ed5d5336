-- What is shown of the numbers of ten seconds. No standard says it; it is this project's.
use Rattle.std.specs.Prelude.{◌≡◌, ◌⊎◌, ℤ, ◌≤ℤ◌, List, [], ◌∷◌, Option, Some, None, ⊤}
use Rattle.history.specs.declared.bounds.Bounds.{Bounds}

-- a number is one of these
abbrev pub IsOneOf : ℤ → List ℤ → Type 0
IsOneOf number [] = ⊥
IsOneOf number (n ∷ more) = (number ≡ n) ⊎ IsOneOf number more

-- none of these is less than a number
abbrev pub NoneIsLess : ℤ → List ℤ → Type 0
NoneIsLess number [] = ⊤
NoneIsLess number (n ∷ more) = (number ≤ℤ n) × NoneIsLess number more

-- none of these is greater
abbrev pub NoneIsGreater : ℤ → List ℤ → Type 0
NoneIsGreater number [] = ⊤
NoneIsGreater number (n ∷ more) = (n ≤ℤ number) × NoneIsGreater number more

-- the least of these numbers, and the greatest
abbrev pub IsLeast : ℤ → List ℤ → Type 0
IsLeast number numbers = IsOneOf number numbers × NoneIsLess number numbers

abbrev pub IsGreatest : ℤ → List ℤ → Type 0
IsGreatest number numbers = IsOneOf number numbers × NoneIsGreater number numbers

-- what is shown of some numbers: the least and the greatest of them, and nothing only where there are none
abbrev pub AreBounds : List ℤ → Option Bounds → Type 0
AreBounds numbers None = numbers ≡ []
AreBounds numbers (Some bounds) = IsLeast bounds.least numbers × IsGreatest bounds.greatest numbers
