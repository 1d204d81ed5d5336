-- A list whose elements are changed one after another.
use Rattle.std.proofs.Common.{◌≡◌, ℕ, zero, suc, ◌+◌, ◌<◌, List, [], ◌∷◌, ◌++◌, take, drop, refl, sym, ap, ◌∙◌, arith, length, map, get_or, add-one}
use Rattle.std.specs.Prelude.{slice_set}

mapped_next : {X : Type 0} (f : X → X) (xs : List X) (i : ℕ) (x y : X) → i < length xs → x ≡ get_or (map f (take i xs) ++ drop i xs) i x → y ≡ f x
    → slice_set (map f (take i xs) ++ drop i xs) i y ≡ map f (take (suc i) xs) ++ drop (suc i) xs
mapped_next f [] i x y h is new = absurd (omega arith)
mapped_next f (a ∷ xs) zero x y h is new = ap (λ b. b ∷ xs) (new ∙ ap f is)
mapped_next f (a ∷ xs) (suc i) x y h is new = ap (λ l. f a ∷ l) (mapped_next f xs i x y (omega arith) is new)

-- one more is mapped
pub mapped_more : {X : Type 0} (f : X → X) (xs ys : List X) (i : ℕ) (x y : X) → i < length xs → ys ≡ map f (take i xs) ++ drop i xs → x ≡ get_or ys i x → y ≡ f x
    → slice_set ys i y ≡ map f (take (i + 1) xs) ++ drop (i + 1) xs
mapped_more f xs ys i x y h so_far is new =
    ap (λ l. slice_set l i y) so_far ∙ mapped_next f xs i x y h (rw (← so_far) is) new ∙ ap (λ k. map f (take k xs) ++ drop k xs) (sym (add-one i))

again : {X : Type 0} (xs : List X) (i : ℕ) (d : X) → get_or xs i d ≡ get_or xs i (get_or xs i d)
again [] i d = refl
again (x ∷ xs) zero d = refl
again (x ∷ xs) (suc i) d = again xs i d

-- the same, of what stands at the place
pub mapped_at : {X : Type 0} (f : X → X) (xs ys : List X) (i : ℕ) (d y : X) → i < length xs → ys ≡ map f (take i xs) ++ drop i xs → y ≡ f (get_or ys i d)
    → slice_set ys i y ≡ map f (take (i + 1) xs) ++ drop (i + 1) xs
mapped_at f xs ys i d y h so_far new = mapped_more f xs ys i (get_or ys i d) y h so_far (again ys i d) new
