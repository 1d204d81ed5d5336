-- Between two numbers that a point shows, it shows each one, where its factor is no coarser.
use Rattle.std.proofs.Common.{rules, ◌≡◌, ◌≢◌, ℕ, ◌+◌, ◌*◌, ◌^◌, List, ℤ, pos, neg_ℤ, ◌+ℤ◌, ◌-ℤ◌, ◌*ℤ◌, ◌≤ℤ◌, ◌<ℤ◌, unsigned_abs, Option, Some, None, unwrap_or, Ok, ◌⊎◌, inl, inr, IsTrue, refl, sym, ap, subst, ◌∙◌, arith}
use Rattle.std.proofs.lemmas.Nat.{pow-add}
use Rattle.std.proofs.lemmas.Int.{ints}
use Rattle.point_types.specs.declared.kind.Kind.{Kind}
use Rattle.point_types.specs.declared.kind.Kind.TheVariants as kind
use Rattle.point_types.specs.Encoding.{Encodes, EncodesBy, IsEncoding}
use Rattle.point_types.specs.Laws.{CanHold}
use Rattle.point_types.specs.Reading.{IsExponent, IsScaled, factor_of}
use Rattle.point_types.proofs.Powers.{times-times, times-le, le_from_times, ten_pos}
use Rattle.point_types.proofs.Spellings.{has_words, holds_exactly}
use Rattle.site_model.specs.Tagging.{is_numeric}

-- ---- numbers that a kind can hold

same_number : (x y : ℤ) → Some x ≡ Some y → x ≡ y
same_number x y e = ap (λ o. unwrap_or o (pos 0)) e

-- a number that is left out lies at an end
above_low : (c a x : ℤ) → Some c ≢ Some a → c ≤ℤ a → a ≤ℤ x → Some c ≢ Some x
above_low c a x apart l m e = let s = same_number c x e in let f : c ≡ a = omega (arith, ints) in apart (ap Some f)

below_high : (c b x : ℤ) → Some c ≢ Some b → b ≤ℤ c → x ≤ℤ b → Some c ≢ Some x
below_high c b x apart l m e = let s = same_number c x e in let f : c ≡ b = omega (arith, ints) in apart (ap Some f)

-- in two's complement, where the least number is left out
signed_between : (low high c a b x : ℤ) → (c +ℤ c) ≡ low →
    ((low ≤ℤ (a +ℤ a)) × ((a +ℤ a) <ℤ high)) × (Some c ≢ Some a) → ((low ≤ℤ (b +ℤ b)) × ((b +ℤ b) <ℤ high)) × (Some c ≢ Some b) →
    a ≤ℤ x → x ≤ℤ b → ((low ≤ℤ (x +ℤ x)) × ((x +ℤ x) <ℤ high)) × (Some c ≢ Some x)
signed_between low high c a b x e h k l m =
    let p = h.0.0 in
    let q = k.0.1 in
    ((omega (arith, ints), omega (arith, ints)), above_low c a x h.1 (omega (arith, ints)) l)

-- as they stand, where the greatest number is left out
unsigned_between : (high c a b x : ℤ) → (c +ℤ pos 1) ≡ high →
    ((pos 0 ≤ℤ a) × (a <ℤ high)) × (Some c ≢ Some a) → ((pos 0 ≤ℤ b) × (b <ℤ high)) × (Some c ≢ Some b) →
    a ≤ℤ x → x ≤ℤ b → ((pos 0 ≤ℤ x) × (x <ℤ high)) × (Some c ≢ Some x)
unsigned_between high c a b x e h k l m =
    let p = h.0.0 in
    let q = k.0.1 in
    ((omega (arith, ints), omega (arith, ints)), below_high c b x k.1 (omega (arith, ints)) m)

-- as they stand, where 0 is left out
counted_between : (high a b x : ℤ) →
    ((pos 0 ≤ℤ a) × (a <ℤ high)) × (Some (pos 0) ≢ Some a) → ((pos 0 ≤ℤ b) × (b <ℤ high)) × (Some (pos 0) ≢ Some b) →
    a ≤ℤ x → x ≤ℤ b → ((pos 0 ≤ℤ x) × (x <ℤ high)) × (Some (pos 0) ≢ Some x)
counted_between high a b x h k l m =
    let p = h.0.0 in
    let q = k.0.1 in
    ((omega (arith, ints), omega (arith, ints)), above_low (pos 0) a x h.1 p l)

no_number : (x : ℤ) → None ≢ Some x
no_number x = search rules

-- bits, of which the number that is left out isn't one
flags_between : (high a b x : ℤ) →
    ((pos 0 ≤ℤ a) × ((a +ℤ a) <ℤ high)) × (None ≢ Some a) → ((pos 0 ≤ℤ b) × ((b +ℤ b) <ℤ high)) × (None ≢ Some b) →
    a ≤ℤ x → x ≤ℤ b → ((pos 0 ≤ℤ x) × ((x +ℤ x) <ℤ high)) × (None ≢ Some x)
flags_between high a b x h k l m =
    let p = h.0.0 in
    let q = k.0.1 in
    ((omega (arith, ints), omega (arith, ints)), no_number x)

-- what a kind can hold between two numbers that it can hold, it can
hold_between : (k : Kind) → IsTrue (is_numeric k) → (a b x : ℤ) → CanHold k a → CanHold k b → a ≤ℤ x → x ≤ℤ b → CanHold k x
hold_between kind.Int16 t a b x h k l m = signed_between (neg_ℤ (pos 65536)) (pos 65536) (neg_ℤ (pos 32768)) a b x refl h k l m
hold_between kind.Sunssf t a b x h k l m = signed_between (neg_ℤ (pos 65536)) (pos 65536) (neg_ℤ (pos 32768)) a b x refl h k l m
hold_between kind.Int32 t a b x h k l m = signed_between (neg_ℤ (pos 4294967296)) (pos 4294967296) (neg_ℤ (pos 2147483648)) a b x refl h k l m
hold_between kind.Int64 t a b x h k l m = signed_between (neg_ℤ (pos 18446744073709551616)) (pos 18446744073709551616) (neg_ℤ (pos 9223372036854775808)) a b x refl h k l m
hold_between kind.Uint16 t a b x h k l m = unsigned_between (pos 65536) (pos 65535) a b x refl h k l m
hold_between kind.Enum16 t a b x h k l m = unsigned_between (pos 65536) (pos 65535) a b x refl h k l m
hold_between kind.Uint32 t a b x h k l m = unsigned_between (pos 4294967296) (pos 4294967295) a b x refl h k l m
hold_between kind.Enum32 t a b x h k l m = unsigned_between (pos 4294967296) (pos 4294967295) a b x refl h k l m
hold_between kind.Uint64 t a b x h k l m = unsigned_between (pos 18446744073709551616) (pos 18446744073709551615) a b x refl h k l m
hold_between kind.Acc16 t a b x h k l m = counted_between (pos 65536) a b x h k l m
hold_between kind.Acc32 t a b x h k l m = counted_between (pos 4294967296) a b x h k l m
hold_between kind.Acc64 t a b x h k l m = counted_between (pos 18446744073709551616) a b x h k l m
hold_between kind.Bitfield16 t a b x h k l m = flags_between (pos 65536) a b x h k l m
hold_between kind.Bitfield32 t a b x h k l m = flags_between (pos 4294967296) a b x h k l m
hold_between kind.Pad t a b x h k l m = search rules
hold_between kind.String t a b x h k l m = search rules

-- ---- a number by a factor that is no coarser than its exponent

rise : (e s : ℤ) → IsExponent e → IsExponent s → s ≤ℤ e → unsigned_abs (e +ℤ pos 10) ≡ unsigned_abs (e -ℤ s) + unsigned_abs (s +ℤ pos 10)
rise e s p q h = omega (arith, ints, p.0, p.1, q.0, q.1)

ratio : (e s : ℤ) → IsExponent e → IsExponent s → s ≤ℤ e → 10 ^ unsigned_abs (e +ℤ pos 10) ≡ 10 ^ unsigned_abs (e -ℤ s) * 10 ^ unsigned_abs (s +ℤ pos 10)
ratio e s p q h = ap (λ n. 10 ^ n) (rise e s p q h) ∙ pow-add 10 (unsigned_abs (e -ℤ s)) (unsigned_abs (s +ℤ pos 10))

raw_is_scaled : (n e s : ℤ) → IsExponent e → IsExponent s → s ≤ℤ e → IsScaled (n *ℤ pos (10 ^ unsigned_abs (e -ℤ s))) s e n
raw_is_scaled n e s p q h = rw (ratio e s p q h) (sym (times-times n (10 ^ unsigned_abs (e -ℤ s)) (10 ^ unsigned_abs (s +ℤ pos 10))))

-- of two numbers the raw numbers are in the same order
raw_in_order : (m n e s r u : ℤ) → IsScaled r s e m → IsScaled u s e n → m ≤ℤ n → r ≤ℤ u
raw_in_order m n e s r u h k l =
    let t = unsigned_abs (s +ℤ pos 10) in
    le_from_times r u (10 ^ t) (ten_pos t) (rw (h, k) (times-le m n (10 ^ unsigned_abs (e +ℤ pos 10)) l))

encodes_between : (k : Kind) → IsTrue (is_numeric k) → (s e low high : ℤ) → IsExponent s → IsExponent e → s ≤ℤ e → (us ws : List ℕ) →
    Encodes k low s e (Ok us) → Encodes k high s e (Ok ws) → (n : ℤ) → low ≤ℤ n → n ≤ℤ high → (xs : List ℕ) × Encodes k n s e (Ok xs)
encodes_between k t s e low high p q f us ws h j n l m =
    let raw = n *ℤ pos (10 ^ unsigned_abs (e -ℤ s)) in
    let scaled = raw_is_scaled n e s q p f in
    let a = (holds_exactly k h.0).1 (us, h.1) in
    let b = (holds_exactly k j.0).1 (ws, j.1) in
    let held = hold_between k t h.0 j.0 raw a b (raw_in_order low n e s h.0 raw h.2 scaled l) (raw_in_order n high e s raw j.0 scaled j.2 m) in
    let found = has_words k raw held in
    (found.0, (raw, found.1, scaled))

-- the one number between two ends that are the same
encodes_at : (k : Kind) (s e low high : ℤ) (us : List ℕ) → high ≤ℤ low → Encodes k low s e (Ok us) → (n : ℤ) → low ≤ℤ n → n ≤ℤ high → (xs : List ℕ) × Encodes k n s e (Ok xs)
encodes_at k s e low high us o h n l m = let f : low ≡ n = omega (arith, ints) in (us, subst (λ v. Encodes k v s e (Ok us)) f h)

pub shown_between : (k : Kind) → IsTrue (is_numeric k) → (factor : Option ℤ) (s e low high : ℤ) → factor_of factor ≡ Some s → IsExponent s → IsExponent e → ((high ≤ℤ low) ⊎ (s ≤ℤ e)) →
    (us : List ℕ) × IsEncoding k low e factor (Ok us) → (ws : List ℕ) × IsEncoding k high e factor (Ok ws) → (n : ℤ) → low ≤ℤ n → n ≤ℤ high → (xs : List ℕ) × IsEncoding k n e factor (Ok xs)
shown_between k t factor s e low high f p q o h j n l m = back (fine o)
  where
    here : Encodes k low s e (Ok h.0)
    here = subst (λ g. EncodesBy k low e g (Ok h.0)) f h.1

    there : Encodes k high s e (Ok j.0)
    there = subst (λ g. EncodesBy k high e g (Ok j.0)) f j.1

    fine : ((high ≤ℤ low) ⊎ (s ≤ℤ e)) → (xs : List ℕ) × Encodes k n s e (Ok xs)
    fine (inl one) = encodes_at k s e low high h.0 one here n l m
    fine (inr finer) = encodes_between k t s e low high p q finer h.0 j.0 here there n l m

    back : (xs : List ℕ) × Encodes k n s e (Ok xs) → (xs : List ℕ) × IsEncoding k n e factor (Ok xs)
    back r = (r.0, subst (λ g. EncodesBy k n e g (Ok r.0)) (sym f) r.1)
