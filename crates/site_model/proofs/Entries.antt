-- Entries of lists: where one was replaced, and where some are missing.
use Rattle.std.proofs.Common.{◌≡◌, ◌≢◌, ◌⊎◌, inl, inr, ℕ, zero, suc, ℤ, List, [], ◌∷◌, set, get_or, Option, Some, None, IfSome, slice_get, refl, sym, ap, subst, ◌∙◌, arith, option_and_then}
use Rattle.std.proofs.lemmas.Option.{get_or_from_slice_get}
use Rattle.point_types.specs.declared.reading.Reading.{Reading}
use Rattle.site_model.specs.declared.tag.SiteTag.{SiteTag}
use Rattle.site_model.specs.declared.want.Want.{Want}
use Rattle.site_model.specs.Readings.{IsTagReading, block_of, known_at}

pub set-cases : {A : Type 0} (xs : List A) (i : ℕ) (v : A) (k : ℕ) (r : A) → slice_get (set xs i v) k ≡ Some r → ((k ≡ i) × (r ≡ v)) ⊎ ((k ≢ i) × (slice_get xs k ≡ Some r))
set-cases [] i v k r e = cc
set-cases (x ∷ xs) zero v zero r e = inl (refl, cc)
set-cases (x ∷ xs) zero v (suc k) r e = inr ((λ p. omega (arith, p)), e)
set-cases (x ∷ xs) (suc i) v zero r e = inr ((λ p. omega (arith, p)), e)
set-cases (x ∷ xs) (suc i) v (suc k) r e = go (set-cases xs i v k r e)
  where
    go : ((k ≡ i) × (r ≡ v)) ⊎ ((k ≢ i) × (slice_get xs k ≡ Some r)) → ((suc k ≡ suc i) × (r ≡ v)) ⊎ ((suc k ≢ suc i) × (slice_get xs k ≡ Some r))
    go (inl p) = inl (ap suc p.0, p.1)
    go (inr p) = inr ((λ q. p.0 (omega (arith, q))), p.1)

pub known-read : {T : Type 0} (xs : List (Option T)) (i : ℕ) → get_or xs i None ≡ known_at xs i
known-read [] i = refl
known-read (x ∷ xs) zero = refl
known-read (x ∷ xs) (suc i) = known-read xs i

-- the entry of a tag is its reading, where it was read at its place
pub entry-read :
    (tags : List SiteTag) (wants : List Want) (blocks : List (Option (List ℕ))) (sets : List (Option ℤ)) (elapsed : Option ℕ) (i : ℕ) (tag : SiteTag) (block : Option (List ℕ)) (reading : Reading) →
    tag ≡ get_or tags i tag → block ≡ block_of wants blocks tag → IsTagReading tag block (get_or sets i None) elapsed reading →
    (k : ℕ) (t : SiteTag) (r : Reading) → k ≡ i → r ≡ reading → slice_get tags k ≡ Some t → IsTagReading t (block_of wants blocks t) (known_at sets k) elapsed r
entry-read tags wants blocks sets elapsed i tag block reading z y x k t r e f p =
    let q = subst (λ n. slice_get tags n ≡ Some t) e p in
    let s : tag ≡ t = z ∙ get_or_from_slice_get tags i t tag q in
    let a = subst (λ (b : Option (List ℕ)). IsTagReading tag b (get_or sets i None) elapsed reading) y x in
    let b = subst (λ (o : Option ℤ). IsTagReading tag (block_of wants blocks tag) o elapsed reading) (known-read sets i) a in
    let d = subst (λ (u : SiteTag). IsTagReading u (block_of wants blocks u) (known_at sets i) elapsed reading) s b in
    let g = subst (λ n. IsTagReading t (block_of wants blocks t) (known_at sets n) elapsed reading) (sym e) d in
    subst (λ (u : Reading). IsTagReading t (block_of wants blocks t) (known_at sets k) elapsed u) (sym f) g

pub setting-in : (In : ℤ → Type 0) (sets : List (Option ℤ)) (k : ℕ) → ((n : ℤ) → slice_get sets k ≡ Some (Some n) → In n) → IfSome (known_at sets k) In
setting-in In sets k h = go (slice_get sets k) refl
  where
    go : (o : Option (Option ℤ)) → slice_get sets k ≡ o → IfSome (option_and_then (λ entry. entry) o) In
    go None e = tt
    go (Some None) e = tt
    go (Some (Some n)) e = h n e
