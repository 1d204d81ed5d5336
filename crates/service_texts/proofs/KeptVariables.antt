-- What a line keeps of a variable.
use Rattle.std.proofs.Common.{◌≡◌, ℕ, ℤ, Bool, true, false, List, Option, None, Some, sym, ap, subst, ◌∙◌, position, slice_get}
use Rattle.point_types.specs.declared.variable.Var.{Var}
use Rattle.service_texts.specs.State.{Says, name_in}
use Rattle.service_texts.specs.Retaining.{Keeps, is_said, may_be_kept}

clash : (o : Option ℕ) (j : ℕ) → o ≡ None → o ≡ Some j → ⊥
clash o j none some = cc

same_place : (o : Option ℕ) (i j : ℕ) → o ≡ Some i → o ≡ Some j → i ≡ j
same_place o i j one other = cc

differ : (b : Bool) → b ≡ false → b ≡ true → ⊥
differ b none some = cc

module _ (vars : List Var) (names : List (List ℕ)) (text name : List ℕ) (number : ℤ) (says : Says text name number) where
  by_its_name : Says text (name_in text) number
  by_its_name = subst (λ n. Says text n number) (sym says.named) says

  here : (o : Option ℕ) → position (is_said name) vars ≡ o → position (is_said (name_in text)) vars ≡ o
  here o is = ap (λ n. position (is_said n) vars) says.named ∙ is

  pub no_variable : position (is_said name) vars ≡ None → (j : ℕ) (m : ℤ) → Keeps vars names text j m → ⊥
  no_variable none j m keeps = clash (position (is_said (name_in text)) vars) j (here None none) keeps.first

  pub not_kept : (i : ℕ) → position (is_said name) vars ≡ Some i → may_be_kept names number (slice_get vars i) ≡ false → (j : ℕ) (m : ℤ) → Keeps vars names text j m → ⊥
  not_kept i at may_not j m keeps =
      let place : i ≡ j = same_place (position (is_said (name_in text)) vars) i j (here (Some i) at) keeps.first in
      let counted : number ≡ m = sym says.counted ∙ keeps.said.counted in
      differ (may_be_kept names number (slice_get vars i)) may_not
      (ap (λ k. may_be_kept names number (slice_get vars k)) place ∙ ap (λ n. may_be_kept names n (slice_get vars j)) counted ∙ keeps.may)

  pub is_kept : (i : ℕ) → position (is_said name) vars ≡ Some i → may_be_kept names number (slice_get vars i) ≡ true → Keeps vars names text i number
  is_kept i at may = record { said = by_its_name; first = here (Some i) at; may = may }

pub no_setting : (vars : List Var) (names : List (List ℕ)) (text : List ℕ) → ((name : List ℕ) (number : ℤ) → Says text name number → ⊥) → (i : ℕ) (number : ℤ) → Keeps vars names text i number → ⊥
no_setting vars names text none i number keeps = none (name_in text) number keeps.said
