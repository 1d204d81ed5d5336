-- The search for a device's map (SunSpec Device Information Model Specification, model discovery).
use Rattle.std.specs.Prelude.{◌≡◌, ℕ, List, Option, None, Some, ⊤, map, slice_get}
use Rattle.register_map.specs.Layout.{Layout}
use Rattle.site_model.specs.declared.device.SiteDevice.{SiteDevice}
use Rattle.site_model.specs.declared.site.Site.{Site}
use Rattle.service_requests.specs.declared.search.SearchStep.{SearchStep}
use Rattle.service_requests.specs.declared.search.SearchStep.TheVariants as step
use Rattle.service_requests.specs.Searches.{IsNext, Sought}

abbrev pub base_sought : Sought → Option ℕ
base_sought sought = sought.base

abbrev pub base_stated : SiteDevice → Option ℕ
base_stated device = device.base

-- There is a search for each of the site's devices, at the base that the site states for it, if any.
abbrev pub AreOf : Site → List Sought → Type 0
AreOf site searches = map base_sought searches ≡ map base_stated site.devices

-- This comes next in a search for the map of this device of the site, at the base that the site states for it, if any.
pub record IsSought (site : Site) (device : ℕ) (next : SearchStep) : Type 0 where
  pub own : SiteDevice
  pub stands : slice_get site.devices device ≡ Some own
  pub sought : Sought
  pub base : sought.base ≡ own.base
  pub comes : IsNext sought next

-- A search for the device's map found this one; to forget a map takes none.
abbrev pub IsFound : Site → ℕ → Option Layout → Type 0
IsFound site device (Some found) = IsSought site device (step.Found found)
IsFound site device None = ⊤
