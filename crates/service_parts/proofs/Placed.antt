-- What is told of whoever stands at a place is told of that one.
use Rattle.std.proofs.Common.{◌≡◌, ℕ, ◌<◌, ◌≤◌, List, Some, length, get_or, slice_get, refl, ap, sym, subst, ◌∙◌}
use Rattle.std.proofs.lemmas.Option.{none-some, same_Some, slice_get_past, slice_get_read}

module _ {X : Type 0} (places : List X) (place : ℕ) where
  -- it stands there
  pub is_read : (seen : List X) (one : X) → places ≡ seen → place < length seen → one ≡ get_or seen place one → slice_get places place ≡ Some one
  is_read seen one same within is = ap (λ (l : List X). slice_get l place) same ∙ slice_get_read seen _ place one refl within is

module _ {X : Type 0} (P : X → Type 0) (places : List X) (place : ℕ) where
  -- `seen` is read at the place, where `one` stands
  pub stands : (seen : List X) (one : X) → places ≡ seen → place < length seen → one ≡ get_or seen place one → P one → (x : X) → slice_get places place ≡ Some x → P x
  stands seen one same within is told x there =
      let at : slice_get places place ≡ Some one = ap (λ (l : List X). slice_get l place) same ∙ slice_get_read seen _ place one refl within is in
      subst P (same_Some _ _ (sym at ∙ there)) told

  -- nobody stands at a place after the last one
  pub stands_none : length places ≤ place → (x : X) → slice_get places place ≡ Some x → P x
  stands_none past x there = absurd (none-some x (sym (slice_get_past places place past) ∙ there))

-- nothing is at a place after the last one
pub none_there : {X : Type 0} {A : Type 0} (places : List X) (place : ℕ) → length places ≤ place → (x : X) → slice_get places place ≡ Some x → A
none_there places place past x there = absurd (none-some x (sym (slice_get_past places place past) ∙ there))
