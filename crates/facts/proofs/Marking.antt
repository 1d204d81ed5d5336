-- Which places are filled, of places that are made from others.
use Rattle.std.proofs.Common.{◌≡◌, ℕ, zero, suc, Bool, true, false, ◌&&◌, ◌||◌, List, [], ◌∷◌, length, map, replicate, Option, Some, None, slice_set, refl, ap}
use Rattle.facts.specs.Fact.{zipped}
use Rattle.facts.specs.Places.{both_places, either_place, is_filled}

pub none_filled : (n : ℕ) → map is_filled (replicate {A = Option (Unit {0})} n None) ≡ replicate n false
none_filled zero = refl
none_filled (suc n) = ap (λ (rest : List Bool). false ∷ rest) (none_filled n)

pub filled_set : {A : Type 0} (ks : List (Option A)) (n : ℕ) (x : A) → map is_filled (slice_set ks n (Some x)) ≡ slice_set (map is_filled ks) n true
filled_set [] n x = refl
filled_set (k ∷ ks) zero x = refl
filled_set (k ∷ ks) (suc n) x = ap (λ (rest : List Bool). is_filled k ∷ rest) (filled_set ks n x)

one_either : {A : Type 0} (j k : Option A) → is_filled (either_place j k) ≡ (is_filled j || is_filled k)
one_either None k = refl
one_either (Some x) k = refl

pub filled_either : {A : Type 0} (js ks : List (Option A)) → map is_filled (zipped either_place js ks) ≡ zipped (λ x y. x || y) (map is_filled js) (map is_filled ks)
filled_either [] ks = refl
filled_either (j ∷ js) [] = refl
filled_either (j ∷ js) (k ∷ ks) = rw (one_either j k) (ap (λ (rest : List Bool). (is_filled j || is_filled k) ∷ rest) (filled_either js ks))

one_both : {A : Type 0} (j k : Option A) → is_filled (both_places j k) ≡ (is_filled j && is_filled k)
one_both None k = refl
one_both (Some x) k = refl

pub filled_both : {A : Type 0} (js ks : List (Option A)) → map is_filled (zipped both_places js ks) ≡ zipped (λ x y. x && y) (map is_filled js) (map is_filled ks)
filled_both [] ks = refl
filled_both (j ∷ js) [] = refl
filled_both (j ∷ js) (k ∷ ks) = rw (one_both j k) (ap (λ (rest : List Bool). (is_filled j && is_filled k) ∷ rest) (filled_both js ks))

pub mapped_one : {A B : Type 0} (f : A → B) (xs : List A) (b : Bool) → map (λ _. b) (map f xs) ≡ replicate (length xs) b
mapped_one f [] b = refl
mapped_one f (x ∷ xs) b = ap (λ (rest : List Bool). b ∷ rest) (mapped_one f xs b)
