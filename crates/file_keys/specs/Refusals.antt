-- Which entry of a list is refused, where entries are read in order, each after those before it.
-- No standard says what a reader refuses first; the order is this project's.
use Rattle.std.specs.Prelude.{◌≡◌, ℕ, zero, suc, Some, Result, Ok, Err}
use Rattle.toml.specs.Data.{Data, Items, no_items, item, get_item}

-- the entries before number n
abbrev pub before : ℕ → Items → Items
before zero entries = no_items
before (suc n) no_items = no_items
before (suc n) (item d ds) = item d (before n ds)

-- Entry n is refused by this fault: the entries before it are read, and it is refused after them. `read` is what entries
-- give, `next` what one gives after what those before it gave.
pub record IsRefusedAt {A B E : Type 0} (read : Items → Result A E) (next : A → Data → Result B E) (n : ℕ) (entries : Items) (e : E) : Type 0 where
  pub seen : A
  pub entry : Data
  pub are_read : read (before n entries) ≡ Ok seen
  pub stands : get_item n entries ≡ Some entry
  pub refused : next seen entry ≡ Err e

-- the same, and the part that is told is entry n of its section
pub record IsRefusedIn {A B E P : Type 0} (part_at : ℕ → P) (read : Items → Result A E) (next : A → Data → Result B E) (entries : Items) (part : P) (e : E) : Type 0 where
  pub number : ℕ
  pub told : part ≡ part_at number
  pub at_number : IsRefusedAt read next number entries e
