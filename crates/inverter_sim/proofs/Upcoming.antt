-- The watts of the ticks to come, as a place in the list of all of them.
use Rattle.std.proofs.Common.{◌≡◌, ℕ, zero, suc, ◌+◌, ◌<◌, ◌≤◌, List, [], ◌∷◌, length, drop, refl, ap, sym, ◌∙◌, arith, add-one}
use Rattle.inverter_sim.specs.Tick.{later}

later_next : (xs : List ℕ) (n : ℕ) → suc n < length xs → later (drop n xs) ≡ drop (suc n) xs
later_next [] n h = absurd (omega arith)
later_next (x ∷ []) n h = absurd (omega arith)
later_next (x ∷ y ∷ xs) zero h = refl
later_next (x ∷ y ∷ xs) (suc n) h = later_next (y ∷ xs) n (omega arith)

pub later_more : (xs : List ℕ) (n : ℕ) → n + 1 < length xs → later (drop n xs) ≡ drop (n + 1) xs
later_more xs n h = later_next xs n (omega (arith, h)) ∙ ap (λ k. drop k xs) (sym (add-one n))

pub later_last : (xs : List ℕ) (n : ℕ) → n < length xs → length xs ≤ n + 1 → later (drop n xs) ≡ drop n xs
later_last [] n h l = absurd (omega arith)
later_last (x ∷ []) zero h l = refl
later_last (x ∷ []) (suc n) h l = absurd (omega arith)
later_last (x ∷ y ∷ xs) zero h l = absurd (omega arith)
later_last (x ∷ y ∷ xs) (suc n) h l = later_last (y ∷ xs) n (omega arith) (omega arith)
