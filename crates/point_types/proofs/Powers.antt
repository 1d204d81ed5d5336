-- A number at another power of ten: by the ratio of the two powers, times it or divided by it.
use Rattle.std.proofs.Common.{◌≡◌, ℕ, zero, suc, ◌+◌, ◌*◌, ◌^◌, ◌<◌, ◌≤◌, ℤ, pos, negsuc, neg_ℤ, ◌+ℤ◌, ◌-ℤ◌, ◌*ℤ◌, ◌≤ℤ◌, ◌<ℤ◌, unsigned_abs, refl, sym, ap, ◌∙◌, arith, lit<}
use Rattle.std.proofs.Math.Nat.{mul-le-mul_left, mul_assoc, zero-mul, one-le-pow}
use Rattle.std.specs.Int.{int_div_euclid, int_rem_euclid}
use Rattle.std.proofs.lemmas.Nat.{pow-add}
use Rattle.std.proofs.lemmas.Int.{ints, by_lt_z}
use borrow.Author.Differences.{up, down}
use Rattle.point_types.specs.declared.scaling.Rescaled.{Rescaled}
use Rattle.point_types.specs.declared.scaling.Rescaled.TheVariants as rescaled
use Rattle.point_types.specs.Reading.{IsExponent, IsScaled, IsScaledDown, power_of}
use Rattle.point_types.specs.Rescaling.{LiesAbove, IsProduct, IsQuotient, IsRescaled}

-- products with a natural number
neg-times : (n t : ℕ) → (neg_ℤ (pos n) *ℤ pos t) ≡ neg_ℤ (pos (n * t))
neg-times zero t = rw (zero-mul t) refl
neg-times (suc n) t = refl

pub times-times : (x : ℤ) (k t : ℕ) → (x *ℤ pos (k * t)) ≡ ((x *ℤ pos k) *ℤ pos t)
times-times (pos m) k t = ap pos (sym (mul_assoc m k t))
times-times (negsuc m) k t = ap (λ n. neg_ℤ (pos n)) (sym (mul_assoc (suc m) k t)) ∙ sym (neg-times (suc m * k) t)

pub times-lt : (x y : ℤ) (t : ℕ) → 0 < t → x <ℤ y → (x *ℤ pos t) <ℤ (y *ℤ pos t)
times-lt x y t h l = let e : (up x + down y) + 1 ≤ (up y + down x) = omega (arith, ints) in omega (arith, ints, mul-le-mul_left t e)

pub times-le : (x y : ℤ) (t : ℕ) → x ≤ℤ y → (x *ℤ pos t) ≤ℤ (y *ℤ pos t)
times-le x y t l = let e : (up x + down y) ≤ (up y + down x) = omega (arith, ints) in omega (arith, ints, mul-le-mul_left t e)

pub ten_pos : (k : ℕ) → 0 < 10 ^ k
ten_pos k = one-le-pow k 10 (lit< tt)

-- a number from -10 on is so far above -10
rise-up : (from to : ℤ) → IsExponent from → IsExponent to → pos 0 ≤ℤ (from -ℤ to) → unsigned_abs (from +ℤ pos 10) ≡ unsigned_abs (from -ℤ to) + unsigned_abs (to +ℤ pos 10)
rise-up from to p q h = omega (arith, ints, p.0, p.1, q.0, q.1)

rise-down : (from to : ℤ) → IsExponent from → IsExponent to → (from -ℤ to) <ℤ pos 0 → unsigned_abs (to +ℤ pos 10) ≡ unsigned_abs (from -ℤ to) + unsigned_abs (from +ℤ pos 10)
rise-down from to p q h = omega (arith, ints, p.0, p.1, q.0, q.1)

ratio-up : (from to : ℤ) → IsExponent from → IsExponent to → pos 0 ≤ℤ (from -ℤ to) → 10 ^ unsigned_abs (from +ℤ pos 10) ≡ 10 ^ unsigned_abs (from -ℤ to) * 10 ^ unsigned_abs (to +ℤ pos 10)
ratio-up from to p q h = ap (λ n. 10 ^ n) (rise-up from to p q h) ∙ pow-add 10 (unsigned_abs (from -ℤ to)) (unsigned_abs (to +ℤ pos 10))

ratio-down : (from to : ℤ) → IsExponent from → IsExponent to → (from -ℤ to) <ℤ pos 0 → 10 ^ unsigned_abs (to +ℤ pos 10) ≡ 10 ^ unsigned_abs (from -ℤ to) * 10 ^ unsigned_abs (from +ℤ pos 10)
ratio-down from to p q h = ap (λ n. 10 ^ n) (rise-down from to p q h) ∙ pow-add 10 (unsigned_abs (from -ℤ to)) (unsigned_abs (from +ℤ pos 10))

-- the power of the number is the other one's or above
pub scaled_up : (x from to : ℤ) → IsExponent from → IsExponent to → pos 0 ≤ℤ (from -ℤ to) → IsScaled x from to (x *ℤ pos (10 ^ unsigned_abs (from -ℤ to)))
scaled_up x from to p q h = rw (ratio-up from to p q h) (times-times x (10 ^ unsigned_abs (from -ℤ to)) (10 ^ unsigned_abs (to +ℤ pos 10)))

pub rescaled_up : (x from to : ℤ) → IsExponent from → IsExponent to → pos 0 ≤ℤ (from -ℤ to) → (r : Rescaled) → IsProduct x (pos (10 ^ unsigned_abs (from -ℤ to))) r → IsRescaled x from to r
rescaled_up x from to p q h (rescaled.Whole n) e = rw e (scaled_up x from to p q h)
rescaled_up x from to p q h (rescaled.Between n) e = absurd e
rescaled_up x from to p q h rescaled.Beyond e = (_, scaled_up x from to p q h, e)

-- it is below
pub rescaled_down : (x from to : ℤ) → IsExponent from → IsExponent to → (from -ℤ to) <ℤ pos 0 → (r : Rescaled) → IsQuotient x (pos (10 ^ unsigned_abs (from -ℤ to))) r → IsRescaled x from to r
rescaled_down x from to p q h (rescaled.Whole n) e =
    let k = 10 ^ unsigned_abs (from -ℤ to) in
    let t = 10 ^ unsigned_abs (from +ℤ pos 10) in
    rw (ratio-down from to p q h) (ap (λ y. y *ℤ pos t) e ∙ sym (times-times n k t))
rescaled_down x from to p q h (rescaled.Between n) e =
    let k = 10 ^ unsigned_abs (from -ℤ to) in
    let t = 10 ^ unsigned_abs (from +ℤ pos 10) in
    record {
      above = rw (ratio-down from to p q h, times-times n k t) (times-lt (n *ℤ pos k) x t (ten_pos _) e.0);
      below = rw (ratio-down from to p q h, times-times (n +ℤ pos 1) k t) (times-lt x ((n +ℤ pos 1) *ℤ pos k) t (ten_pos _) e.1);
    }
rescaled_down x from to p q h rescaled.Beyond e = absurd e

lt_from_times : (x y : ℤ) (t : ℕ) → (x *ℤ pos t) <ℤ (y *ℤ pos t) → x <ℤ y
lt_from_times x y t h = by_lt_z x y (λ l. l) (λ g. let k = times-le y x t g in absurd (omega (arith, ints)))

pub le_from_times : (x y : ℤ) (t : ℕ) → 0 < t → (x *ℤ pos t) ≤ℤ (y *ℤ pos t) → x ≤ℤ y
le_from_times x y t p h = by_lt_z y x (λ l. let k = times-lt y x t p l in absurd (omega (arith, ints))) (λ g. g)

-- between two whole numbers there is none
pub not_between : (raw s e n : ℤ) → LiesAbove raw s e n → (m : ℤ) → IsScaled raw s e m → ⊥
not_between raw s e n h m k =
    let t = 10 ^ unsigned_abs (e +ℤ pos 10) in
    let p : n <ℤ m = lt_from_times n m t (rw (← k) h.above) in
    let q : m <ℤ (n +ℤ pos 1) = lt_from_times m (n +ℤ pos 1) t (rw (← k) h.below) in
    omega (arith, ints)

pub down_between : (raw s e n : ℤ) → LiesAbove raw s e n → IsScaledDown raw s e n
down_between raw s e n h = record {
  below = let a = h.above in omega (arith, ints);
  greatest = λ m k.
      let b = h.below in
      let l : (m *ℤ power_of e) <ℤ ((n +ℤ pos 1) *ℤ power_of e) = omega (arith, ints) in
      let q = lt_from_times m (n +ℤ pos 1) _ l in
      omega (arith, ints);
}

pub down_whole : (raw s e n : ℤ) → IsScaled raw s e n → IsScaledDown raw s e n
down_whole raw s e n h = record {
  below = omega (arith, ints);
  greatest = λ m k. le_from_times m n (10 ^ unsigned_abs (e +ℤ pos 10)) (ten_pos _) (rw h at k);
}

-- a quotient that is rounded down, and its remainder
pub euclid : (x y : ℤ) → pos 0 <ℤ y → x ≡ ((int_div_euclid x y *ℤ y) +ℤ int_rem_euclid x y)
euclid (pos x) (pos d) h = omega (arith, ints)
euclid (negsuc x) (pos d) h = omega (arith, ints)
euclid x (negsuc d) h = absurd (omega (arith, ints))

next-times : (n : ℤ) (d : ℕ) → ((n +ℤ pos 1) *ℤ pos d) ≡ ((n *ℤ pos d) +ℤ pos d)
next-times n d = let e : (up (n +ℤ pos 1) + down n) ≡ (down (n +ℤ pos 1) + up n + 1) = omega (arith, ints) in omega (arith, ints, ap (λ k. k * d) e)

-- where something remains, the number lies between two multiples
pub euclid_between : (x y q r : ℤ) → pos 0 <ℤ y → x ≡ ((q *ℤ y) +ℤ r) → pos 0 <ℤ r → r <ℤ y → ((q *ℤ y) <ℤ x) × (x <ℤ ((q +ℤ pos 1) *ℤ y))
euclid_between x (pos d) q r p e h l = (omega (arith, ints), rw (next-times q d) (omega (arith, ints)))
euclid_between x (negsuc d) q r p e h l = absurd (omega (arith, ints))
