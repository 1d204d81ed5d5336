-- What a factor's register holds is a number of 16 bits.
use Rattle.std.proofs.Common.{◌≡◌, ℕ, ◌*◌, ◌^◌, ◌<◌, ◌≤◌, ◌⊎◌, inl, inr, Bool, true, false, nat_eq, nat_le, if◌then◌else◌, List, [], ◌∷◌, length, get_or, ℤ, pos, ◌-ℤ◌, Some, None, Fits, FitsSigned, refl, arith}
use Rattle.std.specs.Int.{w16, w128}
use Rattle.std.proofs.lemmas.Int.{ints}
use Rattle.std.proofs.lemmas.Bool.Decides.{leb_tells}
use Rattle.point_types.specs.declared.kind.Kind.TheVariants as kinds
use Rattle.point_types.specs.Point.{number_of, has_top_bit, value_of}
use Rattle.point_types.proofs.Truths.{same_some as same_value}

read_16 : (n : ℕ) (v : ℤ) (b : Bool) → n < 65536 → ((nat_le (65536 ^ 1) (2 * n) ≡ true) × (65536 ^ 1 ≤ 2 * n)) ⊎ ((nat_le (65536 ^ 1) (2 * n) ≡ false) × (2 * n < 65536 ^ 1)) → nat_le (65536 ^ 1) (2 * n) ≡ b → Some (if b then pos n -ℤ pos (65536 ^ 1) else pos n) ≡ Some v → FitsSigned w16 v
read_16 n v true h (inl (t, l)) q e = let s = same_value e in omega (arith, ints, s)
read_16 n v true h (inr (t, l)) q e = cc
read_16 n v false h (inl (t, l)) q e = cc
read_16 n v false h (inr (t, l)) q e = let s = same_value e in omega (arith, ints, s)

implemented_16 : (n : ℕ) (v : ℤ) (b : Bool) → n < 65536 → (if b then None else Some (if has_top_bit 1 n then pos n -ℤ pos (65536 ^ 1) else pos n)) ≡ Some v → FitsSigned w16 v
implemented_16 n v true h e = cc
implemented_16 n v false h e = read_16 n v (has_top_bit 1 n) h (leb_tells (65536 ^ 1) (2 * n)) refl e

pub factor-fits : (ws : List ℕ) (v : ℤ) → length ws ≡ 1 → Fits w16 (get_or ws 0 0) → value_of kinds.Sunssf ws ≡ Some v → FitsSigned w16 v
factor-fits [] v l h e = absurd (omega arith)
factor-fits (w ∷ []) v l h e = let s : number_of (w ∷ []) < 65536 = omega arith in implemented_16 (number_of (w ∷ [])) v (nat_eq (number_of (w ∷ [])) 0x8000) s e
factor-fits (w ∷ u ∷ ws) v l h e = absurd (omega arith)

pub factor-fits_128 : (v : ℤ) → FitsSigned w16 v → FitsSigned w128 v
factor-fits_128 v h = omega (arith, ints)
