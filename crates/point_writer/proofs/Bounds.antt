-- The greatest number at or below another one that raw numbers of a range say.
use Rattle.std.proofs.Common.{◌≡◌, ◌^◌, inl, inr, ℤ, pos, neg_ℤ, ◌+ℤ◌, ◌-ℤ◌, ◌*ℤ◌, ◌≤ℤ◌, ◌<ℤ◌, unsigned_abs, sym, subst, arith}
use Rattle.std.proofs.lemmas.Int.{ints, by_lt_z}
use Rattle.point_types.specs.Reading.{IsExponent, IsScaled, IsScaledDown, power_of}
use Rattle.point_types.specs.Rescaling.{IsBeyond, LiesAbove}
use Rattle.point_types.proofs.Powers.{down_between, down_whole, le_from_times, scaled_up, ten_pos, times-le}
use Rattle.point_types.proofs.Uniqueness.{down_one}
use Rattle.point_writer.specs.Nearest.{IsBound, IsDeep, IsOneBelow, IsRawBelow}

-- ---- a raw number

cap_of : (v e s most raw out : ℤ) → IsScaledDown v e s raw → (raw ≤ℤ most → out ≡ raw) → (most <ℤ raw → out ≡ most) → IsRawBelow v e s most out
cap_of v e s most raw out down small large =
    by_lt_z {P = IsRawBelow v e s most out} most raw
    (λ l. subst (IsRawBelow v e s most) (sym (large l)) (record {
      within = omega (arith, ints);
      below = let b = down.below in let c = times-le most raw (10 ^ unsigned_abs (s +ℤ pos 10)) (omega (arith, ints)) in omega (arith, ints);
      greatest = λ q l u. l;
    }))
    (λ g. subst (IsRawBelow v e s most) (sym (small g)) (record { within = g; below = down.below; greatest = λ q l u. down.greatest q u }))

-- a number that leaves 128 bits upward isn't reached by `most`
pub raw_above : (v e s most n : ℤ) → IsScaled v e s n → IsBeyond n → pos 0 <ℤ v → most ≤ℤ pos (2 ^ 64) → IsRawBelow v e s most most
raw_above v e s most n scaled beyond up small =
    record {
      within = omega (arith, ints);
      below = let c = times-le most n (10 ^ unsigned_abs (s +ℤ pos 10)) (reaches beyond) in omega (arith, ints);
      greatest = λ q l u. l;
    }
  where
    reaches : IsBeyond n → most ≤ℤ n
    reaches (inr far) = omega (arith, ints)
    reaches (inl deep) =
        let a = times-le (pos 1) v (10 ^ unsigned_abs (e +ℤ pos 10)) (omega (arith, ints)) in
        let b = times-le n (pos 0) (10 ^ unsigned_abs (s +ℤ pos 10)) (omega (arith, ints)) in
        let c = ten_pos (unsigned_abs (e +ℤ pos 10)) in
        absurd (omega (arith, ints))

-- one that leaves them downward has none
pub raw_deep : (v e s n : ℤ) → IsScaled v e s n → IsBeyond n → v ≤ℤ pos 0 → (q : ℤ) → (q *ℤ power_of s) ≤ℤ (v *ℤ power_of e) → IsDeep q
raw_deep v e s n scaled beyond low q u = go beyond
  where
    below : q ≤ℤ n
    below = le_from_times q n (10 ^ unsigned_abs (s +ℤ pos 10)) (ten_pos _) (omega (arith, ints))

    go : IsBeyond n → IsDeep q
    go (inl deep) = let b = below in omega (arith, ints)
    go (inr far) =
        let a = times-le v (pos 0) (10 ^ unsigned_abs (e +ℤ pos 10)) low in
        let b = times-le (pos 1) n (10 ^ unsigned_abs (s +ℤ pos 10)) (omega (arith, ints)) in
        let c = ten_pos (unsigned_abs (s +ℤ pos 10)) in
        absurd (omega (arith, ints))

pub raw_whole : (v e s most raw out : ℤ) → IsScaled v e s raw → (raw ≤ℤ most → out ≡ raw) → (most <ℤ raw → out ≡ most) → IsRawBelow v e s most out
raw_whole v e s most raw out h = cap_of v e s most raw out (down_whole v e s raw h)

pub raw_between : (v e s most raw out : ℤ) → LiesAbove v e s raw → (raw ≤ℤ most → out ≡ raw) → (most <ℤ raw → out ≡ most) → IsRawBelow v e s most out
raw_between v e s most raw out h = cap_of v e s most raw out (down_between v e s raw h)

-- ---- the number that it says, or the next one below

-- a rounded number has a raw number
has_raw : (raw s e n : ℤ) → IsExponent s → IsExponent e → IsScaledDown raw s e n → (p : ℤ) × IsScaled p s e n
has_raw raw s e n ps pe down = by_lt_z {P = (p : ℤ) × IsScaled p s e n} (e -ℤ s) (pos 0)
    (λ l.
    let k = raw *ℤ pos (10 ^ unsigned_abs (s -ℤ e)) in
    let up = scaled_up raw s e ps pe (omega (arith, ints)) in
    let same : k ≡ n = down_one raw s e k n (down_whole raw s e k up) down in
    (raw, subst (IsScaled raw s e) same up))
    (λ g. (n *ℤ pos (10 ^ unsigned_abs (e -ℤ s)), sym (scaled_up n e s pe ps (omega (arith, ints)))))

module _ (v e s least most raw n : ℤ) (ps : IsExponent s) (pe : IsExponent e) (is : IsRawBelow v e s most raw) (low : least ≤ℤ raw) (down : IsScaledDown raw s e n) where
  above : (m : ℤ) → IsOneBelow v e s least most m → m ≤ℤ n
  above m one =
      let a = times-le m v (10 ^ unsigned_abs (e +ℤ pos 10)) one.below in
      let says = one.says in
      let b = is.greatest one.raw one.high (omega (arith, ints)) in
      let c = times-le one.raw raw (10 ^ unsigned_abs (s +ℤ pos 10)) b in
      down.greatest m (omega (arith, ints))

  not_above : n ≤ℤ v
  not_above = let a = down.below in let b = is.below in le_from_times n v (10 ^ unsigned_abs (e +ℤ pos 10)) (ten_pos _) (omega (arith, ints))

  said : (m : ℤ) → IsOneBelow v e s least most m → IsOneBelow v e s least most n
  said m one =
      let p = has_raw raw s e n ps pe down in
      let scaled = p.1 in
      let says = one.says in
      let a = times-le m n (10 ^ unsigned_abs (e +ℤ pos 10)) (above m one) in
      let b = le_from_times one.raw p.0 (10 ^ unsigned_abs (s +ℤ pos 10)) (ten_pos _) (omega (arith, ints)) in
      let d = down.below in
      let c = le_from_times p.0 raw (10 ^ unsigned_abs (s +ℤ pos 10)) (ten_pos _) (omega (arith, ints)) in
      let w = is.within in
      let o = one.low in
      record { raw = p.0; says = scaled; low = omega (arith, ints); high = omega (arith, ints); below = not_above }

  pub bound : IsBound v e s least most n
  bound = record { below = not_above; greatest = above; said = said }

-- no raw number of the range says one
pub none_below : (v e s least most raw : ℤ) → IsRawBelow v e s most raw → raw <ℤ least → (m : ℤ) → IsOneBelow v e s least most m → ⊥
none_below v e s least most raw is l m one =
    let a = times-le m v (10 ^ unsigned_abs (e +ℤ pos 10)) one.below in
    let says = one.says in
    let b = is.greatest one.raw one.high (omega (arith, ints)) in
    let c = one.low in
    omega (arith, ints)

pub deep_below : (v e s least most : ℤ) → neg_ℤ (pos (2 ^ 64)) ≤ℤ least → ((q : ℤ) → (q *ℤ power_of s) ≤ℤ (v *ℤ power_of e) → IsDeep q) → (m : ℤ) → IsOneBelow v e s least most m → ⊥
deep_below v e s least most short deep m one =
    let a = times-le m v (10 ^ unsigned_abs (e +ℤ pos 10)) one.below in
    let says = one.says in
    let b = deep one.raw (omega (arith, ints)) in
    let c = one.low in
    omega (arith, ints)

-- one that leaves 128 bits lies below all numbers
pub all_deep : (v e s least most raw n : ℤ) → IsExponent s → IsExponent e → v ≤ℤ pos (2 ^ 64) → IsRawBelow v e s most raw → least ≤ℤ raw → IsScaled raw s e n → IsBeyond n → (m : ℤ) → IsOneBelow v e s least most m → IsDeep m
all_deep v e s least most raw n ps pe short is low scaled beyond m one = go beyond
  where
    down : IsScaledDown raw s e n
    down = down_whole raw s e n scaled

    go : IsBeyond n → IsDeep m
    go (inl deep) = let a = above v e s least most raw n ps pe is low down m one in omega (arith, ints)
    go (inr far) = let a = not_above v e s least most raw n ps pe is low down in absurd (omega (arith, ints))
