-- Elements of lists, by any predicate.
use Rattle.std.proofs.Common.{◌≡◌, ℕ, zero, suc, ◌<◌, List, [], ◌∷◌, length, map, replicate, Option, Some, None, slice_get, slice_set, refl, ap, arith}
use Rattle.facts.specs.Fact.{zipped}

pub by_same : {P : Type 0} (i j : ℕ) → (i ≡ j → P) → ((i ≡ j → ⊥) → P) → P
by_same zero zero f g = f refl
by_same zero (suc j) f g = g (λ e. omega arith)
by_same (suc i) zero f g = g (λ e. omega arith)
by_same (suc i) (suc j) f g = by_same i j (λ e. f (ap suc e)) (λ n. g (λ e. n (omega arith)))

pub get_set_same : {A : Type 0} (xs : List A) (i : ℕ) (x : A) → i < length xs → slice_get (slice_set xs i x) i ≡ Some x
get_set_same [] i x h = absurd (omega arith)
get_set_same (y ∷ ys) zero x h = refl
get_set_same (y ∷ ys) (suc i) x h = get_set_same ys i x (omega arith)

pub get_set_other : {A : Type 0} (xs : List A) (i j : ℕ) (x : A) → (j ≡ i → ⊥) → slice_get (slice_set xs i x) j ≡ slice_get xs j
get_set_other [] i j x n = refl
get_set_other (y ∷ ys) zero zero x n = absurd (n refl)
get_set_other (y ∷ ys) zero (suc j) x n = refl
get_set_other (y ∷ ys) (suc i) zero x n = refl
get_set_other (y ∷ ys) (suc i) (suc j) x n = get_set_other ys i j x (λ e. n (ap suc e))

-- where an element was written, past the end too
pub set_at : {A : Type 0} (P : Option A → Type 0) (xs : List A) (i : ℕ) (x : A) → P (Some x) → P None → P (slice_get (slice_set xs i x) i)
set_at P [] i x h k = k
set_at P (y ∷ ys) zero x h k = h
set_at P (y ∷ ys) (suc i) x h k = set_at P ys i x h k

pub zipped_at : {A B C : Type 0} (P : Option C → Type 0) (f : A → B → C) (as' : List A) (bs : List B) (i : ℕ) → P None → ((a : A) (b : B) → slice_get as' i ≡ Some a → slice_get bs i ≡ Some b → P (Some (f a b))) → P (slice_get (zipped f as' bs) i)
zipped_at P f [] bs i h k = h
zipped_at P f (a ∷ as') [] i h k = h
zipped_at P f (a ∷ as') (b ∷ bs) zero h k = k a b refl refl
zipped_at P f (a ∷ as') (b ∷ bs) (suc i) h k = zipped_at P f as' bs i h k

pub mapped_at : {A B : Type 0} (P : Option B → Type 0) (f : A → B) (xs : List A) (i : ℕ) → P None → ((a : A) → slice_get xs i ≡ Some a → P (Some (f a))) → P (slice_get (map f xs) i)
mapped_at P f [] i h k = h
mapped_at P f (a ∷ xs) zero h k = k a refl
mapped_at P f (a ∷ xs) (suc i) h k = mapped_at P f xs i h k

pub repeated_at : {A : Type 0} (P : Option A → Type 0) (n : ℕ) (x : A) (i : ℕ) → P None → P (Some x) → P (slice_get (replicate n x) i)
repeated_at P zero x i h k = h
repeated_at P (suc n) x zero h k = k
repeated_at P (suc n) x (suc i) h k = repeated_at P n x i h k

pub get_within : {A : Type 0} (xs : List A) (i : ℕ) (x : A) → slice_get xs i ≡ Some x → i < length xs
get_within [] i x e = grind arith
get_within (y ∷ ys) zero x e = omega arith
get_within (y ∷ ys) (suc i) x e = let h = get_within ys i x e in omega arith

pub map_one : {A B : Type 0} (xs : List A) (x : B) → map (λ _. x) xs ≡ replicate (length xs) x
map_one [] x = refl
map_one (y ∷ ys) x = ap (λ rest. x ∷ rest) (map_one ys x)
