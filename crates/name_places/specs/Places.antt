-- The place of the first entry of each name in a list.
-- IEC 61131-3 edition 2, 2.1.2 identifiers.
use Rattle.std.specs.Prelude.{◌≡◌, ℕ, Bool, List, Option, Some, None, if◌then◌else◌, position}
use Rattle.std.specs.Borrow.{Bor}
use Rattle.std.specs.Map.{lookup}
use Rattle.std.specs.Str.{bytes_eq}

abbrev pub Entries : Type 0
Entries = List (Bor (List ℕ) × ℕ)

abbrev pub place_in : Entries → List ℕ → Option ℕ
place_in entries name = lookup (λ k. bytes_eq name k.now) entries

abbrev pub or_else : {A : Type 0} → Option A → Option A → Option A
or_else None other = other
or_else (Some a) other = Some a

-- the name has this place where it had none before, and every other name its place of before
abbrev pub Notes : Entries → List ℕ → ℕ → Entries → Type 0
Notes old name place new = (other : List ℕ) → place_in new other ≡ or_else (place_in old other) (if bytes_eq other name then Some place else None)

-- each name has the place of the first item that is so called
abbrev pub IsPlaced : {A : Type 0} → (List ℕ → A → Bool) → List A → Entries → Type 0
IsPlaced is items entries = (name : List ℕ) → place_in entries name ≡ position (is name) items
