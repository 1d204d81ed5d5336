-- The numbers of the tags that are written to a device.
use Rattle.std.proofs.Common.{◌≡◌, ℕ, zero, suc, ◌+◌, Bool, true, false, if◌then◌else◌, List, [], ◌∷◌, Some, slice_get, refl, subst, arith}
use Rattle.site_model.specs.declared.access.Access.{Access}
use Rattle.site_model.specs.declared.access.Access.TheVariants as access
use Rattle.site_model.specs.declared.tag.SiteTag.{SiteTag}
use Rattle.site_model.specs.Wants.{is_output, outs_from, outs_of, AreOutputs}
use Rattle.point_types.proofs.Truths.{same_some as same_number}

written : (a : Access) → is_output a ≡ true → a ≡ access.Output
written access.Input e = cc
written access.Output e = refl
written access.Setting e = cc
written access.Shown e = cc
written access.Time e = cc

-- the tag at a place from the first one on, whose number is n
IsAt : ℕ → List SiteTag → ℕ → Type 0
IsAt n ts number = (t : SiteTag) × (j : ℕ) × (number ≡ n + j) × (slice_get ts j ≡ Some t) × (t.access ≡ access.Output)

behind : (n : ℕ) (u : SiteTag) (ts : List SiteTag) (number : ℕ) → IsAt (n + 1) ts number → IsAt n (u ∷ ts) number
unfolding IsAt
behind n u ts number h = let e = h.2 in (h.0, suc h.1, omega (arith, e), h.3, h.4)

outs-at : (n : ℕ) (ts : List SiteTag) (i number : ℕ) → slice_get (outs_from n ts) i ≡ Some number → IsAt n ts number
unfolding IsAt
outs-at n [] i number e = cc
outs-at n (u ∷ ts) i number e = go (λ k p. outs-at (n + 1) ts k number p) (is_output u.access) refl i e
  where
    go : ((k : ℕ) → slice_get (outs_from (n + 1) ts) k ≡ Some number → IsAt (n + 1) ts number) → (b : Bool) → is_output u.access ≡ b → (k : ℕ) → slice_get (if b then n ∷ outs_from (n + 1) ts else outs_from (n + 1) ts) k ≡ Some number → IsAt n (u ∷ ts) number
    go rest true q zero p = let s = same_number p in (u, 0, omega (arith, s), refl, written u.access q)
    go rest true q (suc k) p = behind n u ts number (rest k p)
    go rest false q k p = behind n u ts number (rest k p)

pub outs-outputs : (ts : List SiteTag) (outs : List ℕ) → outs ≡ outs_of ts → AreOutputs ts outs
unfolding IsAt
outs-outputs ts outs e i number p =
    let h = outs-at 0 ts i number (subst (λ (xs : List ℕ). slice_get xs i ≡ Some number) e p) in
    let q = h.2 in
    let s : h.1 ≡ number = omega (arith, q) in
    (h.0, subst (λ j. slice_get ts j ≡ Some h.0) s h.3, h.4)
