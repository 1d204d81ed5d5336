-- What a line that sets a tag does.
use Rattle.std.proofs.Common.{◌≡◌, ◌∙◌, ℕ, ℤ, int_eq, Bool, true, false, List, Option, Some, None, IsTrue, refl, sym, ap, subst}
use lib.Pointwise.{pointwise}
use Rattle.std.specs.Bool.{Decides}
use Rattle.std.specs.Cmp.{signed_Decides}
use Rattle.std.specs.Option.{option_eq}
use Rattle.std.proofs.lemmas.Bool.{false≢true}
use Rattle.std.proofs.lemmas.Slice.Eq.{slice_eq-Decides}
use Rattle.std.specs.Prelude.{slice_set}
use Rattle.gateway.specs.event_core.Core.{Gateway}
use Rattle.gateway.specs.event_core.Restoring.{NothingSets}
use Rattle.service_texts.specs.declared.state_lines.StateLine.{StateLine}
use Rattle.service_texts.specs.declared.state_lines.StateLine.TheVariants.{Sets}
use Rattle.service_loop.specs.Setting.{SetsBy}

by_result : (tag : ℕ) (number : ℤ) (old : Gateway) (result : Bool) (new : Gateway)
    → (IsTrue result → new.standing ≡ record old.standing { sets = slice_set old.standing.sets tag (Some number); ages = slice_set old.standing.ages tag (Some 0) })
    → (result ≡ false → (new ≡ old) × NothingSets old.site tag number) → SetsBy (Sets tag number) old result new
by_result tag number old true new sets refused = sets refl
by_result tag number old false new sets refused = refused refl

-- `handed` is the number as it is handed on
pub set_by : (line : StateLine) (tag : ℕ) (number handed : ℤ) (old : Gateway) (result : Bool) (new : Gateway) → line ≡ Sets tag number → handed ≡ number
    → (IsTrue result → new.standing ≡ record old.standing { sets = slice_set old.standing.sets tag (Some handed); ages = slice_set old.standing.ages tag (Some 0) })
    → (result ≡ false → (new ≡ old) × NothingSets old.site tag handed) → SetsBy line old result new
set_by line tag number handed old result new is same sets refused =
    subst (λ l. SetsBy l old result new) (sym is) (subst (λ n. SetsBy (Sets tag n) old result new) same (by_result tag handed old result new sets refused))

-- what tags are set to is compared
settings_compared : (a b : Option ℤ) → Decides (option_eq int_eq a b) (a ≡ b)
settings_compared None None = (λ _. refl, λ _. refl)
settings_compared None (Some y) = (λ h. absurd (false≢true h), λ e. ap (λ o. option_eq int_eq None o) (sym e))
settings_compared (Some x) None = (λ h. absurd (false≢true h), λ e. ap (λ o. option_eq int_eq o None) e)
settings_compared (Some x) (Some y) =
    (λ h. ap Some ((signed_Decides x y).0 h), λ e. ap (λ o. option_eq int_eq (Some x) o) (sym e) ∙ (signed_Decides x x).1 refl)

pub all_compared : (xs ys : List (Option ℤ)) (r : Bool) → r ≡ pointwise (option_eq int_eq) xs ys → IsTrue r → xs ≡ ys
all_compared xs ys r is = (slice_eq-Decides settings_compared xs ys r is).0
