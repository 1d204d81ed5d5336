-- The ends of a total, part by part.
use Rattle.std.proofs.Common.{arith, pos, neg_ℤ, ◌≤ℤ◌, ◌*◌, ◌≡◌, ℕ, ◌+◌, ◌<◌, Bool, true, false, if◌then◌else◌, List, length, drop, get_or, Option, Some, None, option_and_then, option_map, ap, subst, sym, ◌∙◌}
use Rattle.std.specs.Prelude.{ℤ, ◌+ℤ◌, int_le, IfSome, slice_get}
use Rattle.std.proofs.lemmas.Int.{ints}
use Rattle.std.proofs.lemmas.List.{at_drop_more}
use Rattle.site_model.specs.declared.tag.SiteTag.{SiteTag}
use Rattle.served_ranges.specs.Shown.{choice_over, end_over, greater, greatest_choice, least_choice, lesser}

pub end_more : (end : SiteTag → ℤ) (t v u : ℤ) (tags : List SiteTag) (parts : List ℕ) (i : ℕ) → i < length parts → option_map end (slice_get tags (get_or parts i 0)) ≡ Some v → u ≡ (t +ℤ v) →
    end_over end t tags (drop i parts) ≡ end_over end u tags (drop (i + 1) parts)
end_more end t v u tags parts i h o e =
    at_drop_more (end_over end t tags) parts i 0 h ∙ ap (option_and_then (λ x. end_over end (t +ℤ x) tags (drop (i + 1) parts))) o ∙ ap (λ z. end_over end z tags (drop (i + 1) parts)) (sym e)

-- so many parts are in their range, with one more
pub within_more : (t v u : ℤ) (i : ℕ) → neg_ℤ (pos (i * 9223372036854775808)) ≤ℤ t → t ≤ℤ pos (i * 9223372036854775808) → neg_ℤ (pos 9223372036854775808) ≤ℤ v → v ≤ℤ pos 9223372036854775808 → u ≡ (t +ℤ v) →
    (neg_ℤ (pos ((i + 1) * 9223372036854775808)) ≤ℤ u) × (u ≤ℤ pos ((i + 1) * 9223372036854775808))
within_more t v u i a b c d e = (omega (arith, ints), omega (arith, ints))

-- ---- of a partial total

pub choice_more : (choice : Option ℤ → ℤ → ℤ) (end : SiteTag → ℤ) (t : Option ℤ) (v u : ℤ) (tags : List SiteTag) (parts : List ℕ) (i : ℕ) → i < length parts →
    option_map end (slice_get tags (get_or parts i 0)) ≡ Some v → u ≡ choice t v → choice_over choice end t tags (drop i parts) ≡ choice_over choice end (Some u) tags (drop (i + 1) parts)
choice_more choice end t v u tags parts i h o e =
    at_drop_more (choice_over choice end t tags) parts i 0 h ∙ ap (option_and_then (λ x. choice_over choice end (Some (choice t x)) tags (drop (i + 1) parts))) o ∙ ap (λ z. choice_over choice end (Some z) tags (drop (i + 1) parts)) (sym e)

-- the lesser of two is one of them
lesser_is : (P : ℤ → Type 0) (m n : ℤ) → P m → P n → P (lesser m n)
lesser_is P m n a b = go (int_le m n)
  where
    go : (x : Bool) → P (if x then m else n)
    go true = a
    go false = b

greater_is : (P : ℤ → Type 0) (m n : ℤ) → P m → P n → P (greater m n)
greater_is P m n a b = go (int_le m n)
  where
    go : (x : Bool) → P (if x then n else m)
    go true = b
    go false = a

-- what so many parts may come to
abbrev IsWithin : ℕ → ℤ → Type 0
IsWithin i n = (neg_ℤ (pos (i * 9223372036854775808)) ≤ℤ n) × (n ≤ℤ pos (i * 9223372036854775808))

-- one more number, alone or with what so many come to
module _ (i : ℕ) (v : ℤ) (c : neg_ℤ (pos 9223372036854775808) ≤ℤ v) (d : v ≤ℤ pos 9223372036854775808) where
  one : IsWithin (i + 1) v
  one = (omega (arith, ints), omega (arith, ints))

  before : (t : ℤ) → neg_ℤ (pos (i * 9223372036854775808)) ≤ℤ t → t ≤ℤ pos (i * 9223372036854775808) → IsWithin (i + 1) t
  before t a b = (omega (arith, ints), omega (arith, ints))

  both : (t : ℤ) → neg_ℤ (pos (i * 9223372036854775808)) ≤ℤ t → t ≤ℤ pos (i * 9223372036854775808) → IsWithin (i + 1) (t +ℤ v)
  both t a b = (omega (arith, ints), omega (arith, ints))

  pub least_within : (t : Option ℤ) (u : ℤ) → IfSome t (λ n. neg_ℤ (pos (i * 9223372036854775808)) ≤ℤ n) → IfSome t (λ n. n ≤ℤ pos (i * 9223372036854775808)) → u ≡ least_choice t v →
      (neg_ℤ (pos ((i + 1) * 9223372036854775808)) ≤ℤ u) × (u ≤ℤ pos ((i + 1) * 9223372036854775808))
  least_within None u a b e = subst (IsWithin (i + 1)) (sym e) one
  least_within (Some t) u a b e = subst (IsWithin (i + 1)) (sym e) (lesser_is (IsWithin (i + 1)) (lesser t v) (t +ℤ v) (lesser_is (IsWithin (i + 1)) t v (before t a b) one) (both t a b))

  pub greatest_within : (t : Option ℤ) (u : ℤ) → IfSome t (λ n. neg_ℤ (pos (i * 9223372036854775808)) ≤ℤ n) → IfSome t (λ n. n ≤ℤ pos (i * 9223372036854775808)) → u ≡ greatest_choice t v →
      (neg_ℤ (pos ((i + 1) * 9223372036854775808)) ≤ℤ u) × (u ≤ℤ pos ((i + 1) * 9223372036854775808))
  greatest_within None u a b e = subst (IsWithin (i + 1)) (sym e) one
  greatest_within (Some t) u a b e = subst (IsWithin (i + 1)) (sym e) (greater_is (IsWithin (i + 1)) (greater t v) (t +ℤ v) (greater_is (IsWithin (i + 1)) t v (before t a b) one) (both t a b))
