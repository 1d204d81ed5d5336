-- A total, part by part.
use Rattle.std.proofs.Common.{◌≡◌, ℕ, ◌+◌, ◌*◌, ◌<◌, List, length, drop, get_or, Option, Some, None, option_and_then, rules, refl, ap, sym, subst, ◌∙◌, arith}
use Rattle.std.specs.Prelude.{ℤ, pos, neg_ℤ, ◌+ℤ◌, ◌≤ℤ◌, IfSome, slice_get}
use Rattle.std.proofs.lemmas.Int.{ints}
use Rattle.std.proofs.lemmas.List.{at_drop_more}
use Rattle.point_types.specs.declared.reading.Reading.{Reading}
use Rattle.gateway.specs.served.ServedImage.{joined, joined_total, own_value, total_over}

pub total_more : (t v u : ℤ) (readings : List Reading) (parts : List ℕ) (i : ℕ) → i < length parts → option_and_then own_value (slice_get readings (get_or parts i 0)) ≡ Some v → u ≡ (t +ℤ v) →
    total_over t readings (drop i parts) ≡ total_over u readings (drop (i + 1) parts)
total_more t v u readings parts i h o e =
    at_drop_more (total_over t readings) parts i 0 h ∙ ap (option_and_then (λ x. total_over (t +ℤ x) readings (drop (i + 1) parts))) o ∙ ap (λ z. total_over z readings (drop (i + 1) parts)) (sym e)

-- so many parts are in their range, with one more
pub within_more : (t v u : ℤ) (i : ℕ) → neg_ℤ (pos (i * 9223372036854775808)) ≤ℤ t → t ≤ℤ pos (i * 9223372036854775808) → neg_ℤ (pos 9223372036854775808) ≤ℤ v → v ≤ℤ pos 9223372036854775808 → u ≡ (t +ℤ v) →
    (neg_ℤ (pos ((i + 1) * 9223372036854775808)) ≤ℤ u) × (u ≤ℤ pos ((i + 1) * 9223372036854775808))
within_more t v u i a b c d e = (omega (arith, ints), omega (arith, ints))

-- ---- a partial total

-- values are joined in any grouping
pub joined_joined : (a b c : Option ℤ) → joined a (joined b c) ≡ joined (joined a b) c
joined_joined None b c = refl
joined_joined (Some a) None c = refl
joined_joined (Some a) (Some b) None = refl
joined_joined (Some a) (Some b) (Some c) = let e : a +ℤ (b +ℤ c) ≡ (a +ℤ b) +ℤ c = omega (arith, ints) in ap Some e

pub joined_more : (t v u : Option ℤ) (readings : List Reading) (parts : List ℕ) (i : ℕ) → i < length parts → option_and_then own_value (slice_get readings (get_or parts i 0)) ≡ v → u ≡ joined t v →
    joined t (joined_total readings (drop i parts)) ≡ joined u (joined_total readings (drop (i + 1) parts))
joined_more t v u readings parts i h o e =
    let rest = joined_total readings (drop (i + 1) parts) in
    ap (joined t) (at_drop_more (joined_total readings) parts i 0 h ∙ ap (λ x. joined x rest) o) ∙ joined_joined t v rest ∙ ap (λ x. joined x rest) (sym e)

-- so many parts are in their range, with one more that may have a value
pub joined_within : (t v u : Option ℤ) (i : ℕ) → IfSome t (λ x. neg_ℤ (pos (i * 9223372036854775808)) ≤ℤ x) → IfSome t (λ x. x ≤ℤ pos (i * 9223372036854775808)) →
    IfSome v (λ x. neg_ℤ (pos 9223372036854775808) ≤ℤ x) → IfSome v (λ x. x ≤ℤ pos 9223372036854775808) → u ≡ joined t v →
    IfSome u (λ x. neg_ℤ (pos ((i + 1) * 9223372036854775808)) ≤ℤ x) × IfSome u (λ x. x ≤ℤ pos ((i + 1) * 9223372036854775808))
joined_within t v u i a b c d e = subst (λ w. IfSome w (λ x. neg_ℤ (pos ((i + 1) * 9223372036854775808)) ≤ℤ x) × IfSome w (λ x. x ≤ℤ pos ((i + 1) * 9223372036854775808))) (sym e) (go t v a b c d)
  where
    go : (t v : Option ℤ) → IfSome t (λ x. neg_ℤ (pos (i * 9223372036854775808)) ≤ℤ x) → IfSome t (λ x. x ≤ℤ pos (i * 9223372036854775808)) →
        IfSome v (λ x. neg_ℤ (pos 9223372036854775808) ≤ℤ x) → IfSome v (λ x. x ≤ℤ pos 9223372036854775808) →
        IfSome (joined t v) (λ x. neg_ℤ (pos ((i + 1) * 9223372036854775808)) ≤ℤ x) × IfSome (joined t v) (λ x. x ≤ℤ pos ((i + 1) * 9223372036854775808))
    go None None a b c d = search rules
    go (Some t) None a b c d = (omega (arith, ints, a), omega (arith, ints, b))
    go None (Some v) a b c d = (omega (arith, ints, c), omega (arith, ints, d))
    go (Some t) (Some v) a b c d = (omega (arith, ints, a, c), omega (arith, ints, b, d))
