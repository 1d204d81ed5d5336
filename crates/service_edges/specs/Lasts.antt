-- What of a file stays, also where the machine loses its power. No standard says it; it is this project's.
use Rattle.std.specs.Prelude.{◌≡◌, ℕ, List, Option, Some}

-- all that a file holds stays, so far as it is known what it holds
abbrev pub Lasts : (lasting contents : Option (List ℕ)) → Type 0
Lasts lasting contents = (bytes : List ℕ) → contents ≡ Some bytes → lasting ≡ Some bytes
