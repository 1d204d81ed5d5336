-- What a search asks for and finds is of its own device.
use Rattle.std.proofs.Common.{◌≡◌, ℕ, zero, suc, List, [], ◌∷◌, map, set, Option, Some, None, option_map, slice_get, refl, sym, ap, ◌∙◌}
use Rattle.std.proofs.lemmas.Option.{slice_get-map}
use Rattle.site_model.specs.declared.device.SiteDevice.{SiteDevice}
use Rattle.site_model.specs.declared.site.Site.{Site}
use Rattle.service_requests.specs.declared.search.SearchStep.{SearchStep}
use Rattle.service_requests.specs.Searches.{IsNext, Sought}
use Rattle.service_parts.specs.Seeking.{AreOf, IsSought, base_sought, base_stated}

some_base : {a b : Option ℕ} → Some a ≡ Some b → a ≡ b
some_base e = cc

-- a search is of the device with its number
own_device : (site : Site) (searches : List Sought) (device : ℕ) (s : Sought) (found : Option SiteDevice) → AreOf site searches → slice_get searches device ≡ Some s → slice_get site.devices device ≡ found
    → option_map base_stated found ≡ Some s.base
own_device site searches device s found same at is =
    ap (option_map base_stated) (sym is) ∙ (sym (slice_get-map base_stated site.devices device) ∙ (ap (λ l. slice_get l device) (sym same) ∙ (slice_get-map base_sought searches device ∙ ap (option_map base_sought) at)))

pub next_step : (site : Site) (searches : List Sought) (device : ℕ) (s : Sought) (next : SearchStep) → AreOf site searches → slice_get searches device ≡ Some s → IsNext s next → ∥ IsSought site device next ∥₁
next_step site searches device s next same at comes = go (slice_get site.devices device) refl
  where
    go : (found : Option SiteDevice) → slice_get site.devices device ≡ found → ∥ IsSought site device next ∥₁
    go None is = absurd (differs (own_device site searches device s None same at is))
      where
        differs : None ≡ Some s.base → ⊥
        differs e = cc
    go (Some own) is = ∣ record { own = own; stands = is; sought = s; base = sym (some_base (own_device site searches device s (Some own) same at is)); comes = comes } ∣₁

-- ---- the searches stay those of the site's devices

same_bases : (searches : List Sought) (i : ℕ) (old new : Sought) → slice_get searches i ≡ Some old → new.base ≡ old.base → map base_sought (set searches i new) ≡ map base_sought searches
same_bases [] i old new at same = refl
same_bases (s ∷ searches) zero old new at same = ap (λ b. b ∷ map base_sought searches) (same ∙ sym (ap base_sought (here at)))
  where
    here : Some s ≡ Some old → s ≡ old
    here e = cc
same_bases (s ∷ searches) (suc i) old new at same = ap (λ l. s.base ∷ l) (same_bases searches i old new at same)

pub with_answer : (site : Site) (searches : List Sought) (i : ℕ) (old new : Sought) → AreOf site searches → slice_get searches i ≡ Some old → new.base ≡ old.base → AreOf site (set searches i new)
with_answer site searches i old new before at same = same_bases searches i old new at same ∙ before

pub with_new : (site : Site) (searches : List Sought) (i : ℕ) (old new : Sought) (own : SiteDevice) → AreOf site searches → slice_get searches i ≡ Some old → slice_get site.devices i ≡ Some own
    → new.base ≡ own.base → AreOf site (set searches i new)
with_new site searches i old new own before at stands is =
    with_answer site searches i old new before at (is ∙ some_base (own_device site searches i old (Some own) before at stands))

pub all_new : (site : Site) (devices : List SiteDevice) (searches : List Sought) → devices ≡ site.devices → map base_sought searches ≡ map base_stated devices → AreOf site searches
all_new site devices searches same are = are ∙ ap (map base_stated) same
