-- Entries that are read in order: one more of them, and the one that is refused.
use Rattle.std.proofs.Common.{◌≡◌, ℕ, zero, suc, ◌+◌, ◌<◌, List, [], ◌∷◌, length, get_or, Some, Result, Ok, Err, refl, sym, ◌∙◌, subst, add-one, arith}
use Rattle.toml.specs.Data.{Data, Items, no_items, item, get_item}
use Rattle.toml.specs.View.{view, items_view}
use Rattle.toml.specs.declared.value.Value.{Value}
use Rattle.file_keys.specs.Refusals.{before, IsRefusedIn}

-- reading goes entry by entry, each after what those before it gave
pub record GoesInOrder {A B E : Type 0} (read : A → Items → Result A E) (next : A → Data → Result B E) (more : A → B → A) : Type 0 where
  pub ends : (seen : A) → read seen no_items ≡ Ok seen
  pub goes : (seen : A) (d : Data) (b : B) (ds : Items) → next seen d ≡ Ok b → read seen (item d ds) ≡ read (more seen b) ds
  pub fails : (seen : A) (d : Data) (e : E) (ds : Items) → next seen d ≡ Err e → read seen (item d ds) ≡ Err e

one_value : {A E : Type 0} (r : Result A E) (a b : A) → r ≡ Ok a → r ≡ Ok b → a ≡ b
one_value r a b p q = cc

pub one_more :
    {A B E : Type 0} (read : A → Items → Result A E) (next : A → Data → Result B E) (more : A → B → A) → GoesInOrder read next more →
    (start seen : A) (n : ℕ) (entries : Items) (d : Data) (b : B) →
    read start (before n entries) ≡ Ok seen → get_item n entries ≡ Some d → next seen d ≡ Ok b → read start (before (suc n) entries) ≡ Ok (more seen b)
one_more read next more order start seen zero no_items d b are_read stands good = cc
one_more read next more order start seen zero (item x ds) d b are_read stands good =
    let same : start ≡ seen = one_value (read start no_items) start seen (order.ends start) are_read in
    let here : next start x ≡ Ok b = cc in
    subst (λ s. read start (item x no_items) ≡ Ok (more s b)) same (order.goes start x b no_items here ∙ order.ends (more start b))
one_more read next more order start seen (suc n) no_items d b are_read stands good = cc
one_more {A} {B} {E} read next more order start seen (suc n) (item x ds) d b are_read stands good =
    go (next start x) refl (λ t e. one_more read next more order (more start t) seen n ds d b (sym (order.goes start x t (before n ds) e) ∙ are_read) stands good)
  where
    go : (r : Result B E) → next start x ≡ r → ((t : B) → next start x ≡ Ok t → read (more start t) (before (suc n) ds) ≡ Ok (more seen b)) → read start (item x (before (suc n) ds)) ≡ Ok (more seen b)
    go (Ok t) e behind = order.goes start x t (before (suc n) ds) e ∙ behind t e
    go (Err e) f behind = let broken = order.fails start x e (before n ds) f in cc

pub item_at : (vs : List Value) (i : ℕ) (v : Value) → i < length vs → v ≡ get_or vs i v → get_item i (items_view vs) ≡ Some (view v)
item_at [] i v within is = absurd (omega (arith, within))
item_at (u ∷ vs) zero v within is = rw (← is) refl
item_at (u ∷ vs) (suc i) v within is = item_at vs i v (omega (arith, within)) is

-- so many entries are read, and the next one is
pub next_read :
    {A B E : Type 0} {read : A → Items → Result A E} {next : A → Data → Result B E} {more : A → B → A} → GoesInOrder read next more →
    (start seen : A) (vs : List Value) (i : ℕ) (v : Value) (b : B) → i < length vs → v ≡ get_or vs i v →
    read start (before i (items_view vs)) ≡ Ok seen → next seen (view v) ≡ Ok b → read start (before (i + 1) (items_view vs)) ≡ Ok (more seen b)
next_read {A} {B} {E} {read} {next} {more} order start seen vs i v b within is are_read good =
    rw add-one (one_more read next more order start seen i (items_view vs) (view v) b are_read (item_at vs i v within is) good)

-- so many entries are read, and the next one is refused: the part that is told is that one
pub refused_here :
    {A B E P : Type 0} (read : A → Items → Result A E) (next : A → Data → Result B E) (part_at : ℕ → P)
    (start seen : A) (vs : List Value) (i n : ℕ) (v : Value) (e : E) → i < length vs → v ≡ get_or vs i v → n ≡ i →
    read start (before i (items_view vs)) ≡ Ok seen → next seen (view v) ≡ Err e → IsRefusedIn part_at (read start) next (items_view vs) (part_at n) e
refused_here {A} {B} {E} {P} read next part_at start seen vs i n v e within is same are_read bad =
    record { number = i; told = rw same refl; at_number = record { seen = seen; entry = view v; are_read = are_read; stands = item_at vs i v within is; refused = bad } }
