-- The readings that a program is run on, and where its outputs stand.
use Rattle.std.proofs.Common.{◌≡◌, ◌⊎◌, inl, inr, ℕ, zero, suc, ◌+◌, ◌<◌, ◌≤◌, List, [], ◌∷◌, length, map, drop, get_or, Option, Some, None, refl, sym, ap, subst, ◌∙◌, arith}
use Rattle.std.specs.Prelude.{ℤ, ◌≤ℤ◌, slice_get, slice_set}
use Rattle.std.proofs.lemmas.List.{drop_more, drop_all, length-set}
use Rattle.std.proofs.lemmas.Option.{get_or_from_slice_get, slice_get_within, slice_get-get_or}
use Rattle.point_types.specs.declared.reading.Reading.{Reading}
use Rattle.point_types.specs.declared.reading.Reading.TheVariants as reading
use Rattle.site_model.specs.declared.tag.SiteTag.{SiteTag}
use Rattle.site_model.specs.Readings.{AreSettings, AreUsable, IsUsable}
use Rattle.verifier.specs.declared.tag_link.TagLink.{TagLink}
use Rattle.verifier.specs.Listing.{is_there}
use Rattle.verifier.specs.Ranges.{range_of}
use Rattle.verifier.specs.Sound.{IsInputOf, IsReadingOf, OutputInRange}
use Rattle.verifier.specs.Verified.{Acceptance, HasAlike, HasLinks, IsAlike}
use Rattle.gateway.specs.event_core.Core.{number_of, numbers_of}
use Rattle.gateway.specs.event_core.SiteRun.{Standing, none_of, reading_at, stored_at}
use Rattle.gateway.proofs.Filling.{map_alike}
use Rattle.gateway.proofs.Settled.{set-cases, still_settings}

-- ---- inputs

usable_input : (t : SiteTag) (link : TagLink) (r : Reading) → IsAlike t link.site → IsUsable t r → IsInputOf (range_of link) r
usable_input t link (reading.Value n) a h = (subst (λ z. z ≤ℤ n) a.low h.0, subst (λ z. n ≤ℤ z) a.high h.1)
usable_input t link (reading.Default n why) a h = (subst (λ z. z ≤ℤ n) a.low h.0, subst (λ z. n ≤ℤ z) a.high h.1)
usable_input t link (reading.Absent why) a h = ap is_there (sym a.default ∙ h)

alike_within : (tags : List SiteTag) (n : ℕ) (s : SiteTag) → HasAlike (slice_get tags n) s → (t : SiteTag) × (slice_get tags n ≡ Some t) × IsAlike t s
alike_within tags n s h = go (slice_get tags n) refl h
  where
    go : (o : Option SiteTag) → slice_get tags n ≡ o → HasAlike o s → (t : SiteTag) × (slice_get tags n ≡ Some t) × IsAlike t s
    go None e k = absurd k
    go (Some t) e k = (t, e, k)

module _ (tags : List SiteTag) (readings : List Reading) (usable : AreUsable tags readings) (each : length readings ≡ length tags) where
  input_at : (link : TagLink) → HasAlike (slice_get tags link.number) link.site → IsInputOf (range_of link) (reading_at readings link.number)
  input_at link h =
      let t = alike_within tags link.number link.site h in
      let w = slice_get_within tags link.number t.0 t.1 in
      let r = get_or readings link.number (reading_at readings link.number) in
      let e : slice_get readings link.number ≡ Some r = slice_get-get_or readings link.number (reading_at readings link.number) (omega (arith, w, each)) in
      let k = usable_input t.0 link r t.2 (usable link.number t.0 r t.1 e) in
      rw e k

  pub inputs_fit : (links : List TagLink) → HasLinks tags links → (t : ℕ) → IsReadingOf (slice_get (map range_of links) t) (slice_get (map (reading_at readings) (map number_of links)) t)
  inputs_fit [] h t = tt
  inputs_fit (link ∷ links) h zero = λ loaded. input_at link h.0
  inputs_fit (link ∷ links) h (suc t) = inputs_fit links h.1 t

-- ---- outputs

pub stored_more : (links : List TagLink) (outputs cur : List (Option ℤ)) (i : ℕ) (d : TagLink) (o : Option ℤ) → i < length links → slice_get outputs i ≡ Some o →
    stored_at (map number_of (drop i links)) (drop i outputs) cur ≡ stored_at (map number_of (drop (i + 1) links)) (drop (i + 1) outputs) (slice_set cur (number_of (get_or links i d)) o)
stored_more links outputs cur i d o h e =
    let w = slice_get_within outputs i o e in
    let a : drop i outputs ≡ o ∷ drop (i + 1) outputs = drop_more outputs i o w ∙ ap (λ x. x ∷ drop (i + 1) outputs) (get_or_from_slice_get outputs i o o e) in
    rw (drop_more links i d h) (rw a refl)

pub stored_whole : (links : List TagLink) (outputs cur : List (Option ℤ)) (i : ℕ) → length links ≤ i → stored_at (map number_of (drop i links)) (drop i outputs) cur ≡ cur
stored_whole links outputs cur i h = rw (drop_all i links h) refl

pub kept_none : (tags : List SiteTag) (cur : List (Option ℤ)) (n : ℕ) → AreSettings tags cur → AreSettings tags (slice_set cur n None)
kept_none tags cur n ranged k u m p q = go (set-cases cur n None k (Some m) q)
  where
    go : ((k ≡ n) × (Some m ≡ None)) ⊎ (slice_get cur k ≡ Some (Some m)) → (u.low ≤ℤ m) × (m ≤ℤ u.high)
    go (inl h) = cc
    go (inr h) = ranged k u m p h

pub stored_in : (tags : List SiteTag) (links : List TagLink) (outputs cur : List (Option ℤ)) → HasLinks tags links → ((t : ℕ) → OutputInRange (slice_get (map range_of links) t) (slice_get outputs t)) → AreSettings tags cur →
    AreSettings tags (stored_at (map number_of links) outputs cur)
stored_in tags [] outputs cur h within ranged = ranged
stored_in tags (link ∷ links) [] cur h within ranged = ranged
stored_in tags (link ∷ links) (None ∷ outputs) cur h within ranged = stored_in tags links outputs (slice_set cur link.number None) h.1 (λ t. within (suc t)) (kept_none tags cur link.number ranged)
stored_in tags (link ∷ links) (Some n ∷ outputs) cur h within ranged =
    let t = alike_within tags link.number link.site h.0 in
    let r = within zero in
    let a = t.2 in
    stored_in tags links outputs (slice_set cur link.number (Some n)) h.1 (λ k. within (suc k))
    (still_settings tags cur link.number t.0 n ranged t.1 (subst (λ z. z ≤ℤ n) (sym a.low) r.0.0, subst (λ z. n ≤ℤ z) (sym a.high) r.0.1))

pub none_in : (tags : List SiteTag) {X : Type 0} (xs : List X) → AreSettings tags (none_of xs)
none_in tags xs i t n p q = go xs i q
  where
    go : {X : Type 0} (xs : List X) (k : ℕ) → slice_get (none_of {X = X} {Y = ℤ} xs) k ≡ Some (Some n) → (t.low ≤ℤ n) × (n ≤ℤ t.high)
    go [] k e = cc
    go (x ∷ xs) zero e = cc
    go (x ∷ xs) (suc k) e = go xs k e

-- ---- what a scan leaves

abbrev made : ℕ → (blocks : List (Option (List ℕ))) (sets : List (Option ℤ)) (ages : List (Option ℕ)) → List ℤ → (outputs : List (Option ℤ)) → List Reading → (scanned : List (Option (List ℕ))) → Standing
made steps blocks sets ages variables outputs readings known = record { blocks = blocks; sets = sets; ages = ages; elapsed = Some 0; variables = variables; last = record { steps = steps; outputs = outputs; readings = readings; blocks = known } }

pub same_made : (steps : ℕ) (blocks : List (Option (List ℕ))) (sets : List (Option ℤ)) (ages : List (Option ℕ)) (readings readings' : List Reading) (variables variables' : List ℤ) (outputs outputs' : List (Option ℤ)) (known : List (Option (List ℕ))) →
    variables ≡ variables' → outputs ≡ outputs' → readings ≡ readings' → known ≡ blocks → made steps blocks sets ages variables outputs readings known ≡ made steps blocks sets ages variables' outputs' readings' blocks
same_made steps blocks sets ages readings readings' variables variables' outputs outputs' known v o r k =
    ap (λ x. made steps blocks sets ages x outputs readings known) v ∙ ap (λ x. made steps blocks sets ages variables' x readings known) o ∙ ap (λ x. made steps blocks sets ages variables' outputs' x known) r ∙ ap (λ x. made steps blocks sets ages variables' outputs' readings' x) k

pub stored_same : (a b : Acceptance) (outputs outputs' : List (Option ℤ)) (old : List (Option ℤ)) (tags : List SiteTag) → a ≡ b → outputs ≡ outputs' → length old ≡ length tags →
    stored_at (numbers_of a) outputs (none_of old) ≡ stored_at (numbers_of b) outputs' (none_of tags)
stored_same a b outputs outputs' old tags e o l =
    ap (λ x. stored_at (numbers_of x) outputs (none_of old)) e ∙ ap (λ x. stored_at (numbers_of b) x (none_of old)) o ∙ ap (λ x. stored_at (numbers_of b) outputs' x) (map_alike None old tags l)

pub length_stored : (ns : List ℕ) (outputs cur : List (Option ℤ)) → length (stored_at ns outputs cur) ≡ length cur
length_stored [] outputs cur = refl
length_stored (n ∷ ns) [] cur = refl
length_stored (n ∷ ns) (o ∷ outputs) cur = length_stored ns outputs (slice_set cur n o) ∙ length-set cur n o
