-- Each value that a form reads comes from one number of the registers: the value's remainder.
use Rattle.std.proofs.Common.{◌≡◌, ℕ, ◌*◌, ◌^◌, ◌<◌, ◌≤◌, ◌⊎◌, inl, inr, Bool, true, false, nat_eq, if◌then◌else◌, List, length, ℤ, pos, neg_ℤ, ◌+ℤ◌, ◌-ℤ◌, ◌≤ℤ◌, ◌<ℤ◌, Option, Some, None, IfSome, IsSomeAnd, option_and_then, refl, sym, ap, subst, ◌∙◌, arith, lit<, lit≤}
use Rattle.std.specs.Int.{int_rem_euclid}
use Rattle.std.specs.Option.{option_map_or}
use Rattle.std.proofs.Math.Nat.{mod-eq_of_lt, pow-le-pow_right}
use Rattle.std.proofs.lemmas.Int.{ints, int_rem_euclid_is}
use Rattle.point_types.specs.declared.form.Form.{Form}
use Rattle.point_types.specs.declared.form.Form.TheVariants as form
use Rattle.point_types.specs.declared.kind.Kind.{Kind}
use Rattle.point_types.specs.declared.kind.Kind.TheVariants as kind
use Rattle.point_types.specs.Point.{Row, row_of, number_of, has_top_bit, read_as, meaning_of, StandsFor, IsSpelling, HasNoSpelling}
use Rattle.point_types.proofs.Numbers.{number_of-lt}
use Rattle.point_types.proofs.Truths.{same_some as same_value}

-- v is the number n of k registers, or what is left of it by two's complement
abbrev pub IsOf : ℕ → ℕ → ℤ → Type 0
IsOf k n v = (v ≡ pos n) ⊎ (v ≡ (pos n -ℤ pos (65536 ^ k)))

read_is : (f : Form) (k n : ℕ) (v : ℤ) → read_as f k n ≡ Some v → IsOf k n v
read_is form.Signed k n v e = go (has_top_bit k n) e
  where
    go : (b : Bool) → Some (if b then pos n -ℤ pos (65536 ^ k) else pos n) ≡ Some v → IsOf k n v
    go true e' = inr (same_value e')
    go false e' = inl (same_value e')
read_is form.Unsigned k n v e = inl (same_value e)
read_is form.Flags k n v e = go (has_top_bit k n) e
  where
    go : (b : Bool) → (if b then None else Some (pos n)) ≡ Some v → IsOf k n v
    go true e' = cc
    go false e' = inl (same_value e')

meaning_is : (r : Row) (n : ℕ) (v : ℤ) → meaning_of r n ≡ Some v → IsOf r.registers n v
meaning_is r n v e = go (nat_eq n r.unimplemented) e
  where
    go : (b : Bool) → (if b then None else read_as r.form r.registers n) ≡ Some v → IsOf r.registers n v
    go true e' = cc
    go false e' = read_is r.form r.registers n v e'

number-rem : (k n : ℕ) (v : ℤ) → n < 65536 ^ k → IsOf k n v → int_rem_euclid v (pos (65536 ^ k)) ≡ pos n
number-rem k n v h (inl e) = rw e (ap pos (mod-eq_of_lt h))
number-rem k n v h (inr e) =
    let back : (v +ℤ pos (1 * 65536 ^ k)) ≡ pos n = omega (arith, ints) in
    int_rem_euclid_is v (pos (65536 ^ k)) (65536 ^ k) 1 n (omega arith) refl back ∙ ap pos (mod-eq_of_lt h)

pub same_read : (f : Form) (k m n : ℕ) (v : ℤ) → m < 65536 ^ k → n < 65536 ^ k → read_as f k m ≡ Some v → read_as f k n ≡ Some v → m ≡ n
same_read f k m n v h l p q = let e : pos m ≡ pos n = sym (number-rem k m v h (read_is f k m v p)) ∙ number-rem k n v l (read_is f k n v q) in cc

-- the number of words that spell a value is its remainder
spelled-number : (r : Row) (ws : List ℕ) (v : ℤ) → IsSpelling r ws v → int_rem_euclid v (pos (65536 ^ r.registers)) ≡ pos (number_of ws)
spelled-number r ws v h = number-rem r.registers (number_of ws) v (subst (λ k. number_of ws < 65536 ^ k) h.sized (number_of-lt ws h.words)) (meaning_is r (number_of ws) v h.value)

pub same_number : (r : Row) (ws us : List ℕ) (v : ℤ) → IsSpelling r ws v → IsSpelling r us v → number_of ws ≡ number_of us
same_number r ws us v h k = let e : pos (number_of ws) ≡ pos (number_of us) = sym (spelled-number r ws v h) ∙ spelled-number r us v k in cc

-- where the remainder's number isn't read as the value, no words are
pub no-spelling : (r : Row) (n : ℕ) (v : ℤ) → int_rem_euclid v (pos (65536 ^ r.registers)) ≡ pos n → (meaning_of r n ≡ Some v → ⊥) → HasNoSpelling r v
no-spelling r n v e out ws h =
    let f : pos (number_of ws) ≡ pos n = sym (spelled-number r ws v h) ∙ e in
    let g : number_of ws ≡ n = cc in
    out (subst (λ k. meaning_of r k ≡ Some v) g h.value)

-- a kind's words by the kind's row
abbrev pub IsSpellingIn : Option Row → List ℕ → ℤ → Type 0
IsSpellingIn o ws v = IsSomeAnd o (λ r. IsSpelling r ws v)

pub spelling_in : (k : Kind) (ws : List ℕ) (v : ℤ) → StandsFor k ws v → IsSpellingIn (row_of k) ws v
spelling_in k ws v h = go (row_of k) h.sized h.value
  where
    go : (o : Option Row) → length ws ≡ option_map_or (λ (r : Row). r.registers) o 1 → option_and_then (λ (r : Row). meaning_of r (number_of ws)) o ≡ Some v → IsSpellingIn o ws v
    go None s e = cc
    go (Some r) s e = record { sized = s; words = h.words; value = e }

-- a value leaves no 128 bits
registers-le : (k : Kind) → IfSome (row_of k) (λ r. r.registers ≤ 4)
registers-le kind.String = tt
registers-le other = lit≤ tt

abbrev pub IsSmall : ℤ → Type 0
IsSmall v = (neg_ℤ (pos (2 ^ 64)) ≤ℤ v) × (v <ℤ pos (2 ^ 64))

spelled-small : (r : Row) (ws : List ℕ) (v : ℤ) → r.registers ≤ 4 → IsSpelling r ws v → IsSmall v
spelled-small r ws v l h = go (meaning_is r (number_of ws) v h.value)
  where
    go : IsOf r.registers (number_of ws) v → IsSmall v
    go (inl e) =
        let p : 65536 ^ r.registers ≤ 65536 ^ 4 = pow-le-pow_right {n = 65536} (lit< tt) {i = r.registers} {j = 4} l in
        let q : number_of ws < 65536 ^ r.registers = subst (λ k. number_of ws < 65536 ^ k) h.sized (number_of-lt ws h.words) in
        (omega (arith, ints), omega (arith, ints))
    go (inr e) =
        let p : 65536 ^ r.registers ≤ 65536 ^ 4 = pow-le-pow_right {n = 65536} (lit< tt) {i = r.registers} {j = 4} l in
        let q : number_of ws < 65536 ^ r.registers = subst (λ k. number_of ws < 65536 ^ k) h.sized (number_of-lt ws h.words) in
        (omega (arith, ints), omega (arith, ints))

pub stands-small : (k : Kind) (ws : List ℕ) (v : ℤ) → StandsFor k ws v → IsSmall v
stands-small k ws v h = go (row_of k) (registers-le k) (spelling_in k ws v h)
  where
    go : (o : Option Row) → IfSome o (λ r. r.registers ≤ 4) → IsSpellingIn o ws v → IsSmall v
    go None l s = absurd s
    go (Some r) l s = spelled-small r ws v l s
