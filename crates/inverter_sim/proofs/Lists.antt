-- Lists whose items are changed one after another.
use Rattle.std.proofs.Common.{◌≡◌, ℕ, zero, suc, ◌+◌, ◌<◌, List, [], ◌∷◌, ◌++◌, map, length, take, drop, get_or, Some, ap, sym, ◌∙◌, arith, add-one}
use Rattle.std.specs.Prelude.{slice_get, slice_set}

mapped_next : {X : Type 0} (f : X → X) (xs : List X) (i : ℕ) (x y : X) → i < length xs → x ≡ get_or (map f (take i xs) ++ drop i xs) i x → y ≡ f x
    → slice_set (map f (take i xs) ++ drop i xs) i y ≡ map f (take (suc i) xs) ++ drop (suc i) xs
mapped_next f [] i x y h is new = absurd (omega arith)
mapped_next f (a ∷ xs) zero x y h is new = ap (λ b. b ∷ xs) (new ∙ ap f is)
mapped_next f (a ∷ xs) (suc i) x y h is new = ap (λ l. f a ∷ l) (mapped_next f xs i x y (omega arith) is new)

-- one item more is mapped
pub mapped_more : {X : Type 0} (f : X → X) (xs ys : List X) (i : ℕ) (x y : X) → i < length xs → ys ≡ map f (take i xs) ++ drop i xs → x ≡ get_or ys i x → y ≡ f x
    → slice_set ys i y ≡ map f (take (i + 1) xs) ++ drop (i + 1) xs
mapped_more f xs ys i x y h so_far is new =
    ap (λ l. slice_set l i y) so_far ∙ mapped_next f xs i x y h (rw (← so_far) is) new ∙ ap (λ k. map f (take k xs) ++ drop k xs) (sym (add-one i))

-- the item that an index gives is the one that stands there
pub stands_there : {X : Type 0} (xs : List X) (i : ℕ) (x : X) → i < length xs → x ≡ get_or xs i x → slice_get xs i ≡ Some x
stands_there [] i x within is = absurd (omega arith)
stands_there (a ∷ xs) zero x within is = ap Some (sym is)
stands_there (a ∷ xs) (suc i) x within is = stands_there xs i x (omega arith) is
