-- Tags that go together: all of them have set points, or one has none.
use Rattle.std.proofs.Common.{◌≡◌, inl, inr, Bool, true, false, ℕ, zero, suc, List, [], ◌∷◌, length, map, slice_get, ℤ, Option, Some, None, option_and_then, Result, Ok, Err, refl, sym, ap, subst, ◌∙◌}
use Rattle.register_map.specs.Layout.{Layout}
use Rattle.site_model.specs.Companions.{companion_of, number_from}
use Rattle.site_model.specs.Readings.{known_at}
use Rattle.site_model.specs.TagView.{companion_at, tag_view}
use Rattle.site_model.specs.Tagging.{Tag}
use Rattle.site_model.specs.declared.tag.SiteTag.{SiteTag}
use Rattle.site_model.specs.declared.want.Want.{Want}
use Rattle.point_writer.specs.declared.write.Write.{Write}
use Rattle.point_writer.specs.declared.write.NoWrite.{NoWrite}
use Rattle.point_writer.specs.declared.write.NoWrite.TheVariants as refusal
use Rattle.point_writer.specs.SetPoint.{IsPlan, IsPlanAt, PointPlace, place_of}
use Rattle.point_writer.specs.Going.{AreCompanionsSet, AreSet, GoesWith, HasNone, HasSetPoint, IsAlone, IsOneUnset, IsPlanWith, together}
use Rattle.point_writer.specs.Laws.{AloneWithoutWith, WritesAllOrNone}

-- alone, a tag isn't both written and not
pub not_both : (maps : List (Option Layout)) (wants : List Want) (blocks : List (Option (List ℕ))) (t : SiteTag) (o : Option ℤ) (w : Write) (cause : NoWrite) →
    IsPlan maps wants blocks t o (Ok w) → IsPlan maps wants blocks t o (Err cause) → ⊥
not_both maps wants blocks t None w cause h k = absurd (cc)
not_both maps wants blocks t (Some v) w cause h k = at (place_of maps wants blocks t) cause h k
  where
    at : (p : Option PointPlace) (e : NoWrite) → IsPlanAt p t v (Ok w) → IsPlanAt p t v (Err e) → ⊥
    at None e h k = absurd (cc)
    at (Some place) refusal.NotSet h k = k
    at (Some place) refusal.NoBlock h k = k
    at (Some place) refusal.With h k = k
    at (Some place) refusal.BadScale h k = k.none h.number h.out
    at (Some place) refusal.Inexact h k = k.none h.number h.out
    at (Some place) refusal.OutOfType h k = k.none h.number h.out

module _ (tags : List SiteTag) (wants : List Want) (maps : List (Option Layout)) (blocks : List (Option (List ℕ))) (outputs : List (Option ℤ)) where
  one_way : (number : ℕ) → HasSetPoint tags wants maps blocks outputs number → HasNone tags wants maps blocks outputs number → ⊥
  one_way number h k = let no = k h.tag h.there in not_both maps wants blocks h.tag (known_at outputs number) h.write no.0 h.plan no.1

  set_or_not : (n : ℕ) (o : Option ℕ) → AreSet tags wants maps blocks outputs n o → IsOneUnset tags wants maps blocks outputs n o → ⊥
  set_or_not zero None h k = k
  set_or_not (suc n) None h k = k
  set_or_not zero (Some number) h k = h
  set_or_not (suc n) (Some number) h (inl none) = one_way number h.0 none
  set_or_not (suc n) (Some number) h (inr later) = set_or_not n (companion_at tags number) h.1 later

pub all_or_none : WritesAllOrNone
all_or_none tags wants maps blocks outputs number h k = set_or_not tags wants maps blocks outputs (length tags) (companion_at tags number) h k

-- the companion of a tag by its number
mapped : (all : List Tag) (ts : List SiteTag) (number : ℕ) (t : SiteTag) → slice_get ts number ≡ Some t → known_at (map (companion_of all) (map tag_view ts)) number ≡ companion_of all (tag_view t)
mapped all [] number t e = absurd (cc)
mapped all (u ∷ ts) zero t e = ap (λ (o : Option SiteTag). option_and_then (λ (x : SiteTag). companion_of all (tag_view x)) o) e
mapped all (u ∷ ts) (suc n) t e = mapped all ts n t e

alone_at : (tags : List SiteTag) (number : ℕ) (t : SiteTag) → slice_get tags number ≡ Some t → t.companion ≡ None → companion_at tags number ≡ None
alone_at tags number t there none =
    mapped (map tag_view tags) tags number t there ∙ ap (option_and_then (λ name. number_from_start name)) none
  where
    number_from_start : List ℕ → Option ℕ
    number_from_start name = number_from 0 name (map tag_view tags)

pub alone : AloneWithoutWith
alone tags wants maps blocks outputs number t r there none h =
    subst (λ (x : Result Write NoWrite). IsPlan maps wants blocks t (known_at outputs number) x) (sym (same h.alone r h.goes)) h.plan
  where
    nothing : (o : Option ℕ) → o ≡ None → (n : ℕ) → IsOneUnset tags wants maps blocks outputs n o → ⊥
    nothing None e zero k = k
    nothing None e (suc n) k = k
    nothing (Some i) e n k = absurd (cc)

    same : (own r : Result Write NoWrite) → GoesWith tags wants maps blocks outputs number own r → r ≡ own
    same (Err cause) r g = g
    same (Ok w) (Ok x) g = ap Ok g.0
    same (Ok w) (Err cause) g = absurd (nothing (companion_at tags number) (alone_at tags number t there none) (length tags) g.1)

-- a tag isn't both written and not
pub plans_differ : (tags : List SiteTag) (wants : List Want) (maps : List (Option Layout)) (blocks : List (Option (List ℕ))) (outputs : List (Option ℤ)) (number : ℕ) (t : SiteTag) (w : Write) (cause : NoWrite) →
    IsPlanWith tags wants maps blocks outputs number t (Ok w) → IsPlanWith tags wants maps blocks outputs number t (Err cause) → ⊥
plans_differ tags wants maps blocks outputs number t w cause one two = go one.alone two.alone one.plan two.plan one.goes two.goes
  where
    go : (a b : Result Write NoWrite) → IsPlan maps wants blocks t (known_at outputs number) a → IsPlan maps wants blocks t (known_at outputs number) b
        → GoesWith tags wants maps blocks outputs number a (Ok w) → GoesWith tags wants maps blocks outputs number b (Err cause) → ⊥
    go (Err e) b p q g h = absurd (cc)
    go (Ok x) (Err e) p q g h = not_both maps wants blocks t (known_at outputs number) x e p q
    go (Ok x) (Ok y) p q g h = set_or_not tags wants maps blocks outputs (length tags) (companion_at tags number) g.1 h.1

-- where a tag is written, those that it goes with are set
pub companions_of_write : (tags : List SiteTag) (wants : List Want) (maps : List (Option Layout)) (blocks : List (Option (List ℕ))) (outputs : List (Option ℤ)) (number : ℕ) (t : SiteTag) (w : Write) →
    IsPlanWith tags wants maps blocks outputs number t (Ok w) → AreCompanionsSet tags wants maps blocks outputs number
companions_of_write tags wants maps blocks outputs number t w h = go h.alone h.goes
  where
    go : (alone : Result Write NoWrite) → GoesWith tags wants maps blocks outputs number alone (Ok w) → AreCompanionsSet tags wants maps blocks outputs number
    go (Err e) g = absurd (cc)
    go (Ok x) g = g.1

-- so it is what is written, by whether they are set
pub goes_together : (tags : List SiteTag) (wants : List Want) (maps : List (Option Layout)) (blocks : List (Option (List ℕ))) (outputs : List (Option ℤ)) (number : ℕ) (alone : Result Write NoWrite) (are_set : Bool) →
    (are_set ≡ true → AreCompanionsSet tags wants maps blocks outputs number) → (are_set ≡ false → IsOneUnset tags wants maps blocks outputs (length tags) (companion_at tags number)) →
    GoesWith tags wants maps blocks outputs number alone (together alone are_set)
goes_together tags wants maps blocks outputs number (Err cause) true set unset = refl
goes_together tags wants maps blocks outputs number (Err cause) false set unset = refl
goes_together tags wants maps blocks outputs number (Ok write) true set unset = (refl, set refl)
goes_together tags wants maps blocks outputs number (Ok write) false set unset = (refl, unset refl)

-- what is written is what would be if it went alone
pub written_alone : (alone : Result Write NoWrite) (are_set : Bool) (w : Write) → together alone are_set ≡ Ok w → alone ≡ Ok w
written_alone (Err cause) true w e = absurd (cc)
written_alone (Err cause) false w e = absurd (cc)
written_alone (Ok write) true w e = e
written_alone (Ok write) false w e = absurd (cc)

-- what is written of a tag by its number
module _ (tags : List SiteTag) (wants : List Want) (maps : List (Option Layout)) (blocks : List (Option (List ℕ))) (outputs : List (Option ℤ)) where
  pub alone_of : (number : ℕ) (t : SiteTag) (r : Result Write NoWrite) → slice_get tags number ≡ Some t → IsAlone tags wants maps blocks outputs number r → IsPlan maps wants blocks t (known_at outputs number) r
  alone_of number t r q h = subst (λ (u : SiteTag). IsPlan maps wants blocks u (known_at outputs number) r) (one_tag h.there q) h.plan
    where
      one_tag : {o : Option SiteTag} {a b : SiteTag} → o ≡ Some a → o ≡ Some b → a ≡ b
      one_tag p q = cc

  pub plan_with : (at number : ℕ) (t : SiteTag) (alone r : Result Write NoWrite) (are_set : Bool) → at ≡ number → IsAlone tags wants maps blocks outputs at alone → r ≡ together alone are_set →
      (are_set ≡ true → AreCompanionsSet tags wants maps blocks outputs at) → (are_set ≡ false → IsOneUnset tags wants maps blocks outputs (length tags) (companion_at tags at)) →
      slice_get tags number ≡ Some t → IsPlanWith tags wants maps blocks outputs number t r
  plan_with at number t alone r are_set same h is set unset q = record {
    alone = alone;
    plan = alone_of number t alone q (subst (λ (n : ℕ). IsAlone tags wants maps blocks outputs n alone) same h);
    goes = subst (λ (x : Result Write NoWrite). GoesWith tags wants maps blocks outputs number alone x) (sym is) (goes_together tags wants maps blocks outputs number alone are_set
        (λ e. subst (λ (n : ℕ). AreCompanionsSet tags wants maps blocks outputs n) same (set e)) (λ e. subst (λ (n : ℕ). IsOneUnset tags wants maps blocks outputs (length tags) (companion_at tags n)) same (unset e)));
  }

  -- one step on the way from tag to tag
  pub on_the_way : (left fewer number : ℕ) (o next : Option ℕ) (All One : Type 0) → left ≡ suc fewer → o ≡ Some number → next ≡ companion_at tags number → HasSetPoint tags wants maps blocks outputs number →
      (AreSet tags wants maps blocks outputs left o → All) × (IsOneUnset tags wants maps blocks outputs left o → One) →
      (AreSet tags wants maps blocks outputs fewer next → All) × (IsOneUnset tags wants maps blocks outputs fewer next → One)
  on_the_way left fewer number o next All One some is step set before =
      let there = subst (λ (x : Option ℕ). (AreSet tags wants maps blocks outputs left x → All) × (IsOneUnset tags wants maps blocks outputs left x → One)) is before in
      let at = subst (λ (n : ℕ). (AreSet tags wants maps blocks outputs n (Some number) → All) × (IsOneUnset tags wants maps blocks outputs n (Some number) → One)) some there in
      (λ h. at.0 (set, subst (λ (x : Option ℕ). AreSet tags wants maps blocks outputs fewer x) step h), λ h. at.1 (inr (subst (λ (x : Option ℕ). IsOneUnset tags wants maps blocks outputs fewer x) step h)))
