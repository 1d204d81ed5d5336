-- The place of a want is its number.
use Rattle.std.proofs.Common.{◌≡◌, ◌⊎◌, inl, inr, ℕ, zero, suc, ◌<◌, Bool, true, false, eqb, ◌||◌, ◌&&◌, List, [], ◌∷◌, ◌++◌, length, get_or, slice_get, position, Option, None, Some, refl, sym, ap, subst, ◌∙◌, arith, eq-eqb}
use Rattle.std.specs.List.{list_any, position_or_len}
use Rattle.std.proofs.lemmas.Bool.{eqb-true}
use Rattle.std.proofs.lemmas.List.Quantifiers.{position-Some}
use Rattle.std.proofs.lemmas.Option.{slice_get-get_or}
use Rattle.site_model.specs.declared.site.Site.{Site}
use Rattle.site_model.specs.declared.tag.SiteTag.{SiteTag}
use Rattle.site_model.specs.declared.want.Want.{Want}
use Rattle.site_model.specs.Wants.{same_want, want_of, wants_behind, with_want}

-- ---- the wants of a site are different

abbrev Distinct : List Want → Type 0
Distinct ws = (i j : ℕ) (w v : Want) → slice_get ws i ≡ Some w → slice_get ws j ≡ Some v → same_want w v ≡ true → i ≡ j

or_left : (a b : Bool) → (a || b) ≡ false → a ≡ false
or_left true b e = absurd (cc)
or_left false b e = refl

or_right : (a b : Bool) → (a || b) ≡ false → b ≡ false
or_right true b e = absurd (cc)
or_right false b e = e

and_left : (a b : Bool) → (a && b) ≡ true → a ≡ true
and_left true b e = refl
and_left false b e = absurd (cc)

and_right : (a b : Bool) → (a && b) ≡ true → b ≡ true
and_right true b e = e
and_right false b e = absurd (cc)

eqb_swap : (a b : ℕ) → eqb a b ≡ true → eqb b a ≡ true
eqb_swap a b e = subst (λ x. eqb x a ≡ true) (eqb-true a b e) (eq-eqb a a refl)

both : (a b : Bool) → a ≡ true → b ≡ true → (a && b) ≡ true
both a b p q = rw p q

same_swap : (w v : Want) → same_want w v ≡ true → same_want v w ≡ true
same_swap w v e = both (eqb v.device w.device) (eqb v.model w.model) (eqb_swap w.device v.device (and_left _ _ e)) (eqb_swap w.model v.model (and_right _ _ e))

same_self : (w : Want) → same_want w w ≡ true
same_self w = both (eqb w.device w.device) (eqb w.model w.model) (eq-eqb w.device w.device refl) (eq-eqb w.model w.model refl)

-- one that isn't among some is none of them
not_among : (w : Want) (ws : List Want) (i : ℕ) (v : Want) → list_any (same_want w) ws ≡ false → slice_get ws i ≡ Some v → same_want w v ≡ true → ⊥
not_among w [] i v none at same = cc
not_among w (x ∷ ws) zero v none at same =
    let is : x ≡ v = cc in
    differs (sym (or_left (same_want w x) _ none) ∙ (ap (same_want w) is ∙ same))
  where
    differs : false ≡ true → ⊥
    differs e = cc
not_among w (x ∷ ws) (suc i) v none at same = not_among w ws i v (or_right (same_want w x) _ none) at same

-- an entry of a list with one more after it
behind_cases : (ws : List Want) (x : Want) (i : ℕ) (v : Want) → slice_get (ws ++ x ∷ []) i ≡ Some v → (slice_get ws i ≡ Some v) ⊎ ((i ≡ length ws) × (v ≡ x))
behind_cases [] x zero v at = inr (refl, cc)
behind_cases [] x (suc i) v at = absurd (cc)
behind_cases (w ∷ ws) x zero v at = inl at
behind_cases (w ∷ ws) x (suc i) v at = go (behind_cases ws x i v at)
  where
    go : (slice_get ws i ≡ Some v) ⊎ ((i ≡ length ws) × (v ≡ x)) → (slice_get (w ∷ ws) (suc i) ≡ Some v) ⊎ ((suc i ≡ length (w ∷ ws)) × (v ≡ x))
    go (inl is) = inl is
    go (inr is) = inr (ap suc is.0, is.1)

one_more : (ws : List Want) (x : Want) → Distinct ws → list_any (same_want x) ws ≡ false → Distinct (ws ++ x ∷ [])
one_more ws x distinct none i j w v at_i at_j same = go (behind_cases ws x i w at_i) (behind_cases ws x j v at_j)
  where
    go : (slice_get ws i ≡ Some w) ⊎ ((i ≡ length ws) × (w ≡ x)) → (slice_get ws j ≡ Some v) ⊎ ((j ≡ length ws) × (v ≡ x)) → i ≡ j
    go (inl a) (inl b) = distinct i j w v a b same
    go (inr a) (inr b) = a.0 ∙ sym b.0
    go (inl a) (inr b) = absurd (not_among x ws i w none a (same_swap w x (ap (same_want w) (sym b.1) ∙ same)))
    go (inr a) (inl b) = absurd (not_among x ws j v none b (ap (λ (y : Want). same_want y v) (sym a.1) ∙ same))

with_distinct : (ws : List Want) (o : Option Want) → Distinct ws → Distinct (with_want ws o)
with_distinct ws None distinct = distinct
with_distinct ws (Some x) distinct = go (list_any (same_want x) ws) refl
  where
    go : (b : Bool) → list_any (same_want x) ws ≡ b → Distinct (with_want ws (Some x))
    go true is = rw is distinct
    go false is = rw is (one_more ws x distinct is)

all_distinct : (ws : List Want) (tags : List SiteTag) → Distinct ws → Distinct (wants_behind ws tags)
all_distinct ws [] distinct = distinct
all_distinct ws (t ∷ tags) distinct = all_distinct (with_want ws (want_of t)) tags (with_distinct ws (want_of t) distinct)

wants_distinct : (site : Site) → Distinct site.wants
wants_distinct site = subst Distinct (sym site.wanted) (all_distinct [] site.tags (λ i j w v at_i at_j same. absurd (cc)))

-- ---- the place of a want is its number

found_below : (p : Want → Bool) (ws : List Want) (j : ℕ) (w : Want) → slice_get ws j ≡ Some w → p w ≡ true → position_or_len p ws < length ws
found_below p [] j w at is = absurd (cc)
found_below p (x ∷ ws) zero w at is = let here : x ≡ w = cc in rw (ap p here ∙ is) (omega arith)
found_below p (x ∷ ws) (suc j) w at is = go (found_below p ws j w at is) (p x) refl
  where
    go : position_or_len p ws < length ws → (b : Bool) → p x ≡ b → position_or_len p (x ∷ ws) < length (x ∷ ws)
    go below true here = rw here (omega arith)
    go below false here = rw here (omega (arith, below))

no_place : (p : Want → Bool) (ws : List Want) → position p ws ≡ None → position_or_len p ws < length ws → ⊥
no_place p ws none below = grind (arith, none, below)

pub place_of : (site : Site) (j : ℕ) (w : Want) → slice_get site.wants j ≡ Some w → position (same_want w) site.wants ≡ Some j
place_of site j w at = go (position (same_want w) site.wants) refl
  where
    go : (o : Option ℕ) → position (same_want w) site.wants ≡ o → position (same_want w) site.wants ≡ Some j
    go None is = absurd (no_place (same_want w) site.wants is (found_below (same_want w) site.wants j w at (same_self w)))
    go (Some k) is =
        let found = position-Some (same_want w) site.wants k w is in
        is ∙ ap Some (sym (wants_distinct site j k w (get_or site.wants k w) at (slice_get-get_or site.wants k w found.0) found.1))
