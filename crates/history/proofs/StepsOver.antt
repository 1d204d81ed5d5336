-- What is kept of the steps that are over, when one more is.
use Rattle.std.proofs.Common.{◌≡◌, ℕ, ◌+◌, ◌-◌, ◌≤◌, ℤ, List, [], ◌∷◌, ◌++◌, length, drop, Option, refl, ap, arith, sym, zero, suc, ◌∙◌, length-drop}
use Rattle.std.proofs.lemmas.List.{drop-append-le, drop-drop, length_push}
use Rattle.history.specs.declared.bounds.Bounds.{Bounds}
use Rattle.history.specs.Bounds.{AreBounds}
use Rattle.history.specs.Steps.{AreKept, last}

as_many : (steps : List (List ℤ)) (kept : List (Option Bounds)) → AreKept steps kept → length steps ≡ length kept
as_many [] [] are = refl
as_many [] (k ∷ kept) are = elim are [ ]
as_many (s ∷ steps) [] are = elim are [ ]
as_many (s ∷ steps) (k ∷ kept) are = ap suc (as_many steps kept are.1)

one_more : (steps : List (List ℤ)) (kept : List (Option Bounds)) (s : List ℤ) (k : Option Bounds)
    → AreKept steps kept → AreBounds s k → AreKept (steps ++ s ∷ []) (kept ++ k ∷ [])
one_more [] [] s k are is = (is, are)
one_more [] (b ∷ kept) s k are is = elim are [ ]
one_more (n ∷ steps) [] s k are is = elim are [ ]
one_more (n ∷ steps) (b ∷ kept) s k are is = (are.0, one_more steps kept s k are.1 is)

some_less : (n : ℕ) (steps : List (List ℤ)) (kept : List (Option Bounds)) → AreKept steps kept → AreKept (drop n steps) (drop n kept)
some_less zero steps kept are = are
some_less (suc n) [] [] are = are
some_less (suc n) [] (k ∷ kept) are = elim are [ ]
some_less (suc n) (s ∷ steps) [] are = elim are [ ]
some_less (suc n) (s ∷ steps) (k ∷ kept) are = some_less n steps kept are.1

shifted : (place n d : ℕ) (steps : List (List ℤ)) (kept : List (Option Bounds)) → place ≡ n + d
    → AreKept (drop n steps) kept → AreKept (drop place steps) (drop d kept)
shifted place n d steps kept is are = rw (is, sym (drop-drop d n steps)) (some_less d (drop n steps) kept are)

longer : (n : ℕ) (steps : List (List ℤ)) (kept : List (Option Bounds)) (s : List ℤ) (k : Option Bounds) → n ≤ length steps
    → AreKept (drop n steps) kept → AreBounds s k → AreKept (drop n (steps ++ s ∷ [])) (kept ++ k ∷ [])
longer n steps kept s k within are is = rw (drop-append-le n steps (s ∷ []) within) (one_more (drop n steps) kept s k are is)

place_of : (most : ℕ) (steps : List (List ℤ)) (kept : List (Option Bounds)) (s : List ℤ) (k : Option Bounds)
    → length kept ≡ length steps - (length steps - most)
    → length (steps ++ s ∷ []) - most ≡ (length steps - most) + (length (kept ++ k ∷ []) - most)
place_of most steps kept s k many = omega (arith, many, length_push steps s, length_push kept k)

pub step_more : (most : ℕ) (steps : List (List ℤ)) (kept : List (Option Bounds)) (s : List ℤ) (k : Option Bounds)
    → AreKept (last most steps) kept → AreBounds s k → AreKept (last most (steps ++ s ∷ [])) (last most (kept ++ k ∷ []))
step_more most steps kept s k are is =
    let n = length steps - most in
    let many = sym (as_many (drop n steps) kept are) ∙ length-drop n steps in
    shifted _ n _ (steps ++ s ∷ []) (kept ++ k ∷ []) (place_of most steps kept s k many)
    (longer n steps kept s k (omega arith) are is)
