-- Lists that are filled from one another, one entry after another.
use Rattle.std.proofs.Common.{◌≡◌, ℕ, ◌+◌, ◌<◌, List, [], ◌∷◌, ◌++◌, length, map, take, drop, get_or, refl, sym, ap, ◌∙◌, arith, append_assoc}
use Rattle.std.specs.Prelude.{slice_set}
use Rattle.std.proofs.lemmas.List.{drop_more, take_more_set}

pub filled_more : {X Y : Type 0} (f : X → Y) (xs : List X) (ys : List Y) (i : ℕ) (d : X) → i < length xs → length ys ≡ length xs →
    take i ys ++ map f (drop i xs) ≡ take (i + 1) (slice_set ys i (f (get_or xs i d))) ++ map f (drop (i + 1) xs)
filled_more f xs ys i d h l =
    let x = get_or xs i d in
    rw (take_more_set ys i (f x) (omega (arith, h, l))) (ap (λ zs. take i ys ++ map f zs) (drop_more xs i d h) ∙ sym (append_assoc (take i ys) (f x ∷ []) (map f (drop (i + 1) xs))))

pub map_map : {X Y Z : Type 0} (f : Y → Z) (g : X → Y) (xs : List X) → map f (map g xs) ≡ map (λ x. f (g x)) xs
map_map f g [] = refl
map_map f g (x ∷ xs) = ap (λ zs. f (g x) ∷ zs) (map_map f g xs)

-- lists of one length are alike where their items don't count
pub map_alike : {X Y Z : Type 0} (z : Z) (xs : List X) (ys : List Y) → length xs ≡ length ys → map (λ x. z) xs ≡ map (λ y. z) ys
map_alike z [] [] l = refl
map_alike z [] (y ∷ ys) l = absurd (omega (arith, l))
map_alike z (x ∷ xs) [] l = absurd (omega (arith, l))
map_alike z (x ∷ xs) (y ∷ ys) l = ap (λ zs. z ∷ zs) (map_alike z xs ys (omega (arith, l)))
