-- Each point has one reading.
use Rattle.std.proofs.Common.{◌≡◌, ◌≢◌, ℕ, ◌^◌, ◌<◌, ◌⊎◌, inl, inr, ℤ, pos, negsuc, ◌+ℤ◌, ◌*ℤ◌, ◌≤ℤ◌, ◌<ℤ◌, unsigned_abs, Option, Some, None, refl, sym, ◌∙◌, arith}
use Rattle.std.specs.Int.{int_div_euclid, int_rem_euclid}
use Rattle.std.proofs.lemmas.Int.{ints, by_lt_z}
use Rattle.point_types.specs.declared.reading.Cause.TheVariants as cause
use Rattle.point_types.specs.declared.reading.Reading.{Reading}
use Rattle.point_types.specs.declared.reading.Reading.TheVariants as reading
use Rattle.point_types.specs.Reading.{Reads, ReadsBy, IsScaled, IsScaledDown, IsReading, IsReadingDown, factor_of, power_of}
use Rattle.point_types.specs.Rescaling.{LiesAbove}
use Rattle.point_types.proofs.Powers.{ten_pos, le_from_times, not_between, down_whole, down_between, euclid, euclid_between}

abbrev pub AtMostOne : (ℤ → Type 0) → Type 0
AtMostOne Is = (m n : ℤ) → Is m → Is n → m ≡ n

value_same : {m n : ℤ} → m ≡ n → reading.Value m ≡ reading.Value n
value_same e = cc

apart : (Is : ℤ → Type 0) (low high m n : ℤ) → AtMostOne Is → Is m → (low ≤ℤ m) × (m ≤ℤ high) → Is n → (n <ℤ low) ⊎ (high <ℤ n) → ⊥
apart Is low high m n one i h j (inl l) = let e = one m n i j in omega (arith, ints)
apart Is low high m n one i h j (inr l) = let e = one m n i j in omega (arith, ints)

one_reads : (Is : ℤ → Type 0) (low high : ℤ) → AtMostOne Is → (r t : Reading) → Reads Is low high r → Reads Is low high t → r ≡ t
one_reads Is low high one (reading.Value m) (reading.Value n) h k = value_same (one m n h.0 k.0)
one_reads Is low high one (reading.Value m) (reading.Absent cause.Inexact) h k = absurd (k m h.0)
one_reads Is low high one (reading.Value m) (reading.Absent cause.OutOfRange) h k = absurd (apart Is low high m k.0 one h.0 (h.1, h.2) k.1 k.2)
one_reads Is low high one (reading.Absent cause.Inexact) (reading.Value n) h k = absurd (h n k.0)
one_reads Is low high one (reading.Absent cause.Inexact) (reading.Absent cause.Inexact) h k = refl
one_reads Is low high one (reading.Absent cause.Inexact) (reading.Absent cause.OutOfRange) h k = absurd (h k.0 k.1)
one_reads Is low high one (reading.Absent cause.OutOfRange) (reading.Value n) h k = absurd (apart Is low high n h.0 one k.0 (k.1, k.2) h.1 h.2)
one_reads Is low high one (reading.Absent cause.OutOfRange) (reading.Absent cause.Inexact) h k = absurd (k h.0 h.1)
one_reads Is low high one (reading.Absent cause.OutOfRange) (reading.Absent cause.OutOfRange) h k = refl
one_reads Is low high one (reading.Value m) (reading.Absent other) h k = absurd k
one_reads Is low high one (reading.Absent cause.Inexact) (reading.Absent other) h k = absurd k
one_reads Is low high one (reading.Absent cause.OutOfRange) (reading.Absent other) h k = absurd k
one_reads Is low high one (reading.Default m c) t h k = absurd h
one_reads Is low high one r (reading.Default n c) h k = absurd k
one_reads Is low high one (reading.Absent other) t h k = absurd h

one_reads_by : (Is : (raw s e n : ℤ) → Type 0) (raw e low high : ℤ) → ((s : ℤ) → AtMostOne (Is raw s e)) → (f : Option ℤ) (r t : Reading) → ReadsBy Is raw f e low high r → ReadsBy Is raw f e low high t → r ≡ t
one_reads_by Is raw e low high one None r t h k = h ∙ sym k
one_reads_by Is raw e low high one (Some s) r t h k = one_reads (Is raw s e) low high (one s) r t h k

pub scaled_one : (raw s e : ℤ) → AtMostOne (IsScaled raw s e)
scaled_one raw s e m n h k =
    let same : (m *ℤ power_of e) ≡ (n *ℤ power_of e) = sym h ∙ k in
    let p = le_from_times m n (10 ^ unsigned_abs (e +ℤ pos 10)) (ten_pos _) (omega (arith, ints)) in
    let q = le_from_times n m (10 ^ unsigned_abs (e +ℤ pos 10)) (ten_pos _) (omega (arith, ints)) in
    omega (arith, ints)

pub down_one : (raw s e : ℤ) → AtMostOne (IsScaledDown raw s e)
down_one raw s e m n h k =
    let p = h.greatest n k.below in
    let q = k.greatest m h.below in
    omega (arith, ints)

pub at_most_one_reading : (raw : ℤ) (f : Option ℤ) (e low high : ℤ) (r t : Reading) → IsReading raw f e low high r → IsReading raw f e low high t → r ≡ t
at_most_one_reading raw f e low high r t h k = one_reads_by IsScaled raw e low high (λ s. scaled_one raw s e) (factor_of f) r t h k

pub at_most_one_reading_down : (raw : ℤ) (f : Option ℤ) (e low high : ℤ) (r t : Reading) → IsReadingDown raw f e low high r → IsReadingDown raw f e low high t → r ≡ t
at_most_one_reading_down raw f e low high r t h k = one_reads_by IsScaledDown raw e low high (λ s. down_one raw s e) (factor_of f) r t h k

-- there is one: the whole number below is found by division
rem_within : (x : ℤ) (d : ℕ) → 0 < d → (pos 0 ≤ℤ int_rem_euclid x (pos d)) × (int_rem_euclid x (pos d) <ℤ pos d)
rem_within (pos x) d h = (omega (arith, ints), omega (arith, ints))
rem_within (negsuc x) d h = (omega (arith, ints), omega (arith, ints))

found : (raw s e : ℤ) → (n : ℤ) × (IsScaled raw s e n ⊎ LiesAbove raw s e n)
found raw s e =
    let x = raw *ℤ power_of s in
    let d = 10 ^ unsigned_abs (e +ℤ pos 10) in
    let n = int_div_euclid x (pos d) in
    let r = int_rem_euclid x (pos d) in
    let p : 0 < d = ten_pos (unsigned_abs (e +ℤ pos 10)) in
    let y : pos 0 <ℤ pos d = omega (arith, ints) in
    let q : x ≡ ((n *ℤ pos d) +ℤ r) = euclid x (pos d) y in
    let w = rem_within x d p in (
      n,
      by_lt_z {P = IsScaled raw s e n ⊎ LiesAbove raw s e n} (pos 0) r
          (λ l. let b = euclid_between x (pos d) n r y q l w.1 in inr (record { above = b.0; below = b.1 }))
          (λ g. let z : r ≡ pos 0 = omega (arith, ints) in inl (omega (arith, ints))),
    )

abbrev pub HasReading : (ℤ → Type 0) → (low high : ℤ) → Type 0
HasReading Is low high = (r : Reading) × Reads Is low high r × (r ≢ reading.Absent cause.Inexact)

within : (Is : ℤ → Type 0) (low high n : ℤ) → Is n → HasReading Is low high
within Is low high n i =
    by_lt_z {P = HasReading Is low high} n low (λ l. (reading.Absent cause.OutOfRange, (n, i, inl l), λ e. cc))
    (λ g. by_lt_z {P = HasReading Is low high} high n (λ l. (reading.Absent cause.OutOfRange, (n, i, inr l), λ e. cc))
    (λ k. (reading.Value n, (i, g, k), λ e. cc)))

pub at_least_one_reading : (raw : ℤ) (f : Option ℤ) (e low high : ℤ) → (r : Reading) × IsReading raw f e low high r
at_least_one_reading raw f e low high = go (factor_of f)
  where
    known : (s n : ℤ) → IsScaled raw s e n ⊎ LiesAbove raw s e n → (r : Reading) × ReadsBy IsScaled raw (Some s) e low high r
    known s n (inl i) = let h = within (IsScaled raw s e) low high n i in (h.0, h.1)
    known s n (inr l) = (reading.Absent cause.Inexact, not_between raw s e n l)

    go : (g : Option ℤ) → (r : Reading) × ReadsBy IsScaled raw g e low high r
    go None = (reading.Absent cause.BadScale, refl)
    go (Some s) = let n = found raw s e in known s n.0 n.1

pub at_least_one_reading_down : (raw : ℤ) (f : Option ℤ) (e low high : ℤ) → (r : Reading) × IsReadingDown raw f e low high r × (r ≢ reading.Absent cause.Inexact)
at_least_one_reading_down raw f e low high = go (factor_of f)
  where
    down : (s n : ℤ) → IsScaled raw s e n ⊎ LiesAbove raw s e n → IsScaledDown raw s e n
    down s n (inl i) = down_whole raw s e n i
    down s n (inr l) = down_between raw s e n l

    go : (g : Option ℤ) → (r : Reading) × ReadsBy IsScaledDown raw g e low high r × (r ≢ reading.Absent cause.Inexact)
    go None = (reading.Absent cause.BadScale, refl, λ e'. cc)
    go (Some s) = let n = found raw s e in within (IsScaledDown raw s e) low high n.0 (down s n.0 n.1)

pub down_is_never_inexact : (raw : ℤ) (f : Option ℤ) (e low high : ℤ) → IsReadingDown raw f e low high (reading.Absent cause.Inexact) → ⊥
down_is_never_inexact raw f e low high h =
    let d = at_least_one_reading_down raw f e low high in
    d.2 (at_most_one_reading_down raw f e low high d.0 (reading.Absent cause.Inexact) d.1 h)
