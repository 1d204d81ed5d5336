-- One more place, and the places before the first that is kept.
use Rattle.std.proofs.Common.{◌≡◌, ◌∙◌, ℕ, zero, suc, ◌+◌, ◌≤◌, List, [], ◌∷◌, ◌++◌, length, replicate, Option, Some, None, refl, ap, sym, append_assoc, length-append, arith}
use Rattle.std.proofs.lemmas.Grind.{replicate_next}
use Rattle.std.proofs.lemmas.List.{length-replicate}
use Rattle.facts.specs.Places.{places, filled}

append_nil : {A : Type 0} (xs : List A) → xs ++ [] ≡ xs
append_nil [] = refl
append_nil (x ∷ xs) = ap (λ rest. x ∷ rest) (append_nil xs)

pub push_empty : {A : Type 0} (ks : List (ℕ × A)) (at_end : ℕ) → places ks (at_end + 1) ≡ places ks at_end ++ None ∷ []
push_empty {A} [] at_end = replicate_next {X = Option A} at_end None
push_empty {A} (k ∷ ks) at_end = ap (λ (rest : List (Option A)). replicate k.0 None ++ Some k.1 ∷ rest) (push_empty ks at_end) ∙ sym (append_assoc (replicate k.0 None) (Some k.1 ∷ places ks at_end) (None ∷ []))

pub push_kept : {A : Type 0} (ks : List (ℕ × A)) (at_end : ℕ) (x : A) → places (ks ++ (at_end, x) ∷ []) 0 ≡ places ks at_end ++ Some x ∷ []
push_kept [] at_end x = refl
push_kept {A} (k ∷ ks) at_end x = ap (λ (rest : List (Option A)). replicate k.0 None ++ Some k.1 ∷ rest) (push_kept ks at_end x) ∙ sym (append_assoc (replicate k.0 None) (Some k.1 ∷ places ks at_end) (Some x ∷ []))

pub length_next : {A : Type 0} (xs : List A) (x : A) → length (xs ++ x ∷ []) ≡ length xs + 1
length_next xs x = rw (length-append xs (x ∷ [])) refl

pub end_is_short : {A : Type 0} (ks : List (ℕ × A)) (at_end : ℕ) → at_end ≤ length (places ks at_end)
end_is_short {A} [] at_end = rw (length-replicate {A = Option A} at_end None) (omega arith)
end_is_short {A} (k ∷ ks) at_end =
    let below : at_end ≤ length (places ks at_end) = end_is_short ks at_end in
    rw (length-append (replicate {A = Option A} k.0 None) (Some k.1 ∷ places ks at_end)) (omega arith)

filled_later : {A : Type 0} (n : ℕ) (ks : List (Option A)) → filled (replicate n None ++ ks) ≡ filled ks
filled_later zero ks = refl
filled_later (suc n) ks = filled_later n ks

pub filled_is : {A : Type 0} (ks : List (ℕ × A)) (at_end : ℕ) → filled (places ks at_end) ≡ length ks
filled_is {A} [] at_end = rw (← append_nil (replicate {A = Option A} at_end None)) (filled_later at_end [])
filled_is (k ∷ ks) at_end = filled_later k.0 (Some k.1 ∷ places ks at_end) ∙ ap suc (filled_is ks at_end)
