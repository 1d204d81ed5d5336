-- Lists that are built from another, element by element.
use Rattle.std.proofs.Common.{◌≡◌, ◌∙◌, ℕ, zero, suc, ◌+◌, ◌≤◌, Bool, true, false, List, [], ◌∷◌, ◌++◌, length, replicate, Some, None, slice_get, slice_set, refl, ap, sym, arith}

-- the first one is how the second begins
abbrev pub Begins : {A : Type 0} → List A → List A → Type 0
Begins [] xs = Unit {0}
Begins (y ∷ ys) [] = ⊥
Begins (y ∷ ys) (x ∷ xs) = (y ≡ x) × Begins ys xs

one_more : {A : Type 0} (ys xs : List A) (x : A) → Begins ys xs → slice_get xs (length ys) ≡ Some x → Begins (ys ++ x ∷ []) xs
one_more [] [] x h e = cc
one_more [] (z ∷ xs) x h e = (cc, tt)
one_more (y ∷ ys) [] x h e = h
one_more (y ∷ ys) (z ∷ xs) x h e = (h.0, one_more ys xs x h.1 e)

pub begins_next : {A : Type 0} (ys zs xs : List A) (x : A) (n : ℕ) → Begins ys xs → n ≡ length ys → Some x ≡ slice_get xs n → zs ≡ ys ++ x ∷ [] → Begins zs xs
begins_next ys zs xs x n h counted e made = rw made (one_more ys xs x h (ap (slice_get xs) (sym counted) ∙ sym e))

begins_all : {A : Type 0} (ys xs : List A) → Begins ys xs → slice_get xs (length ys) ≡ None → ys ≡ xs
begins_all [] [] h e = refl
begins_all [] (z ∷ xs) h e = cc
begins_all (y ∷ ys) [] h e = absurd h
begins_all (y ∷ ys) (z ∷ xs) h e = cc (h.0, begins_all ys xs h.1 e)

pub begins_done : {A : Type 0} (ys xs : List A) (n : ℕ) → Begins ys xs → n ≡ length ys → None ≡ slice_get xs n → ys ≡ xs
begins_done ys xs n h counted e = begins_all ys xs h (ap (slice_get xs) (sym counted) ∙ sym e)

-- the truths before so many, and FALSE from there on
abbrev pub up_to : ℕ → List Bool → List Bool
up_to n [] = []
up_to zero (b ∷ bs) = false ∷ up_to zero bs
up_to (suc n) (b ∷ bs) = b ∷ up_to n bs

pub up_to_none : (bs : List Bool) → up_to zero bs ≡ replicate (length bs) false
up_to_none [] = refl
up_to_none (b ∷ bs) = ap (λ (rest : List Bool). false ∷ rest) (up_to_none bs)

pub up_to_all : (n : ℕ) (bs : List Bool) → length bs ≤ n → up_to n bs ≡ bs
up_to_all n [] h = refl
up_to_all zero (b ∷ bs) h = absurd (omega arith)
up_to_all (suc n) (b ∷ bs) h = ap (λ (rest : List Bool). b ∷ rest) (up_to_all n bs (omega arith))

up_to_true : (n : ℕ) (bs : List Bool) → slice_get bs n ≡ Some true → slice_set (up_to n bs) n true ≡ up_to (suc n) bs
up_to_true n [] e = refl
up_to_true zero (b ∷ bs) e = cc
up_to_true (suc n) (b ∷ bs) e = ap (λ (rest : List Bool). b ∷ rest) (up_to_true n bs e)

up_to_false : (n : ℕ) (bs : List Bool) → slice_get bs n ≡ Some false → up_to n bs ≡ up_to (suc n) bs
up_to_false n [] e = refl
up_to_false zero (b ∷ bs) e = cc
up_to_false (suc n) (b ∷ bs) e = ap (λ (rest : List Bool). b ∷ rest) (up_to_false n bs e)

next : (n : ℕ) → suc n ≡ n + 1
next n = omega arith

pub one_more_true : (n : ℕ) (bs ps qs : List Bool) (b : Bool) → slice_get bs n ≡ Some b → b ≡ true → ps ≡ up_to n bs → qs ≡ slice_set ps n true → qs ≡ up_to (n + 1) bs
one_more_true n bs ps qs b e t h made = made ∙ ap (λ (xs : List Bool). slice_set xs n true) h ∙ up_to_true n bs (e ∙ ap (λ (x : Bool). Some x) t) ∙ ap (λ (k : ℕ). up_to k bs) (next n)

pub one_more_false : (n : ℕ) (bs ps : List Bool) (b : Bool) → slice_get bs n ≡ Some b → b ≡ false → ps ≡ up_to n bs → ps ≡ up_to (n + 1) bs
one_more_false n bs ps b e t h = h ∙ up_to_false n bs (e ∙ ap (λ (x : Bool). Some x) t) ∙ ap (λ (k : ℕ). up_to k bs) (next n)
