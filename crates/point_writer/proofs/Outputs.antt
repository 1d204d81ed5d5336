-- The tag and the number of an output, by its place among the outputs of a site.
use Rattle.std.proofs.Common.{◌≡◌, ℕ, ◌<◌, List, length, get_or, slice_get, ℤ, ◌≤ℤ◌, Option, Some, None, Result, sym, ap, subst, ◌∙◌, arith}
use Rattle.std.proofs.lemmas.Option.{get_or_from_slice_get, slice_get-get_or}
use Rattle.register_map.specs.Layout.{Layout}
use Rattle.site_model.specs.declared.access.Access.TheVariants as access
use Rattle.site_model.specs.declared.tag.SiteTag.{SiteTag}
use Rattle.site_model.specs.declared.want.Want.{Want}
use Rattle.site_model.specs.Wants.{AreOutputs}
use Rattle.site_model.specs.Readings.{AreSettings, known_at}
use Rattle.point_writer.specs.declared.write.Write.{Write}
use Rattle.point_writer.specs.declared.write.NoWrite.{NoWrite}
use Rattle.point_writer.specs.Going.{IsAlone}
use Rattle.point_writer.specs.SetPoint.{IsPlan}
use Rattle.site_model.proofs.Entries.{known-read}

same_value : {A : Type 0} {o : Option A} {a b : A} → o ≡ Some a → o ≡ Some b → a ≡ b
same_value p q = cc

-- the tag of a number
module _ (tags known : List SiteTag) (et : known ≡ tags) (outputs : List (Option ℤ)) (number : ℕ) (tag : SiteTag) (is : tag ≡ get_or known number tag) where
  tag_there : number < length tags → slice_get tags number ≡ Some tag
  tag_there inside = slice_get-get_or tags number tag inside ∙ ap (λ (u : SiteTag). Some u) (sym (is ∙ ap (λ (xs : List SiteTag). get_or xs number tag) et))

  pub planned_alone : (maps : List (Option Layout)) (wants asked : List Want) (blocks : List (Option (List ℕ))) (r : Result Write NoWrite) → number < length tags → asked ≡ wants →
      IsPlan maps asked blocks tag (get_or outputs number None) r → IsAlone tags wants maps blocks outputs number r
  planned_alone maps wants asked blocks r inside ew h =
      let b = subst (λ (o : Option ℤ). IsPlan maps asked blocks tag o r) (known-read outputs number) h in
      record { tag = tag; there = tag_there inside; plan = subst (λ (ws : List Want). IsPlan maps ws blocks tag (known_at outputs number) r) ew b }

  pub stored_in : number < length tags → length outputs ≡ length tags → AreSettings tags outputs → (v : ℤ) → get_or outputs number None ≡ Some v → (tag.low ≤ℤ v) × (v ≤ℤ tag.high)
  stored_in inside same settings v e =
      let m : number < length outputs = omega (arith, inside, same) in
      let s = slice_get-get_or outputs number None m ∙ ap (λ (o : Option ℤ). Some o) e in
      settings number tag v (tag_there inside) s

-- the number of the i-th output
module _ (tags : List SiteTag) (outs places : List ℕ) (eo : places ≡ outs) (i other : ℕ) where
  pub number_of : (number : ℕ) → slice_get outs i ≡ Some number → get_or places i other ≡ number
  number_of number p = ap (λ (xs : List ℕ). get_or xs i other) eo ∙ get_or_from_slice_get outs i number other p

  -- the tag whose number is the i-th
  pub tag_of : (known : List SiteTag) → known ≡ tags → (tag : SiteTag) → tag ≡ get_or known (get_or places i other) tag → (number : ℕ) (t : SiteTag) → slice_get outs i ≡ Some number → slice_get tags number ≡ Some t → tag ≡ t
  tag_of known et tag is number t p q =
      is ∙ ap (λ (n : ℕ). get_or known n tag) (number_of number p) ∙ ap (λ (xs : List SiteTag). get_or xs number tag) et ∙ get_or_from_slice_get tags number t tag q

  pub output_access : AreOutputs tags places → (number : ℕ) (t : SiteTag) → slice_get outs i ≡ Some number → slice_get tags number ≡ Some t → t.access ≡ access.Output
  output_access are number t p q =
      let x = are i number (subst (λ (xs : List ℕ). slice_get xs i ≡ Some number) (sym eo) p) in
      subst (λ (u : SiteTag). u.access ≡ access.Output) (same_value x.1 q) x.2
