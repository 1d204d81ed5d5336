-- Which registers a site reads and writes: the device and the model of each tag whose point lies in a device, by first use.
-- SunSpec Device Information Model Specification, models and points.
use Rattle.std.specs.Prelude.{◌≡◌, slice_get, ℕ, ◌+◌, ◌==◌, Bool, true, false, ◌&&◌, List, [], ◌∷◌, ◌++◌, Option, Some, None, option_map, find, if◌then◌else◌}
use Rattle.std.specs.List.{list_any}
use Rattle.site_model.specs.declared.access.Access.{Access}
use Rattle.site_model.specs.declared.access.Access.TheVariants as access
use Rattle.site_model.specs.declared.tag.SiteTag.{SiteTag}
use Rattle.site_model.specs.declared.want.Want.{Want}

abbrev pub same_want : Want → Want → Bool
same_want v w = v.device == w.device && v.model == w.model

-- whether the point of a tag lies in a device
abbrev pub is_of_device : Access → Bool
is_of_device access.Input = true
is_of_device access.Output = true
is_of_device access.Setting = false
is_of_device access.Shown = false
is_of_device access.Time = false

-- the device and the model of a tag whose point lies in a device
abbrev pub want_of : SiteTag → Option Want
want_of t = if is_of_device t.access then option_map (λ d. record { device = d; model = t.model }) t.device else None

-- with one more after them, where it isn't among them
abbrev pub with_want : List Want → Option Want → List Want
with_want ws None = ws
with_want ws (Some w) = if list_any (same_want w) ws then ws else ws ++ w ∷ []

abbrev pub wants_behind : List Want → List SiteTag → List Want
wants_behind ws [] = ws
wants_behind ws (t ∷ ts) = wants_behind (with_want ws (want_of t)) ts

-- each device and model of the tags once, by first use
abbrev pub wants_of : List SiteTag → List Want
wants_of ts = wants_behind [] ts

-- whether the program's values of a tag are written to a device
abbrev pub is_output : Access → Bool
is_output access.Output = true
is_output other = false

abbrev pub outs_from : ℕ → List SiteTag → List ℕ
outs_from i [] = []
outs_from i (t ∷ ts) = if is_output t.access then i ∷ outs_from (i + 1) ts else outs_from (i + 1) ts

-- the numbers of the tags that are written to a device, in order
abbrev pub outs_of : List SiteTag → List ℕ
outs_of ts = outs_from 0 ts

-- each of these numbers is that of a tag that is written to a device
abbrev pub AreOutputs : List SiteTag → List ℕ → Type 0
AreOutputs tags outs = (i number : ℕ) → slice_get outs i ≡ Some number → (t : SiteTag) × (slice_get tags number ≡ Some t) × (t.access ≡ access.Output)

-- the length of a model in a table of models and their lengths
abbrev pub length_of : List (ℕ × ℕ) → ℕ → Option ℕ
length_of lengths model = option_map (λ e. e.1) (find (λ e. e.0 == model) lengths)
