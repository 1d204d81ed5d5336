-- What clients aren't shown of sums and of `site` tags, and why: by the served image.
-- SunSpec Device Information Model Specification, points and scale factors.
use Rattle.std.specs.Prelude.{◌≡◌, ℕ, zero, suc, Bool, true, false, not, if◌then◌else◌, List, [], ◌∷◌, ◌++◌, find, slice_get, ℤ, Option, Some, None, option_and_then, Ok, Err}
use Rattle.std.specs.List.{list_any}
use Rattle.point_types.specs.declared.encoding.Unencodable.TheVariants as unencodable
use Rattle.point_types.specs.declared.kind.Kind.{Kind}
use Rattle.point_types.specs.declared.reading.Reading.{Reading}
use Rattle.point_types.specs.Encoding.{IsEncoding}
use Rattle.site_model.specs.declared.access.Access.{Access}
use Rattle.site_model.specs.declared.access.Access.TheVariants as access
use Rattle.site_model.specs.declared.served.Served.{Served}
use Rattle.site_model.specs.declared.served.Source.{Source}
use Rattle.site_model.specs.declared.served.Source.TheVariants as given
use Rattle.site_model.specs.declared.site.Site.{Site}
use Rattle.site_model.specs.declared.tag.SiteTag.{SiteTag}
use Rattle.site_model.specs.Readings.{known_at}
use Rattle.site_model.specs.Tagging.{is_numeric}
use Rattle.gateway.specs.served.ServedImage.{own_value, partial_total_of, total_of}
use Rattle.served_ranges.specs.declared.shown.Demand.{Demand}
use Rattle.served_ranges.specs.Shown.{demand_of_partial, demand_of_stored, demand_of_total}
use Rattle.service_alarms.specs.declared.alarm.Alarm.{Alarm}
use Rattle.service_alarms.specs.declared.alarm.Alarm.TheVariants as alarm
use Rattle.service_alarms.specs.declared.alarm.Hidden.{Hidden}
use Rattle.service_alarms.specs.declared.alarm.Hidden.TheVariants as hidden

-- ---- a number

-- by a factor and an exponent: none where there are words of the kind that read as the number, or why there are none
abbrev pub HidesNumber : Kind → (number exponent : ℤ) → Option ℤ → Option Hidden → Type 0
HidesNumber k n e f None = (words : List ℕ) × IsEncoding k n e f (Ok words)
HidesNumber k n e f (Some hidden.BadScale) = IsEncoding k n e f (Err unencodable.BadScale)
HidesNumber k n e f (Some hidden.Inexact) = IsEncoding k n e f (Err unencodable.Inexact)
HidesNumber k n e f (Some hidden.OutOfType) = IsEncoding k n e f (Err unencodable.OutOfType)
HidesNumber k n e f (Some hidden.NotStored) = ⊥
HidesNumber k n e f (Some (hidden.Part i)) = ⊥

-- at a point; one of a text, or of a pad, says no number
abbrev pub HidesBy : (is_said : Bool) → Demand → ℤ → Option Hidden → Type 0
HidesBy false d n h = h ≡ Some hidden.OutOfType
HidesBy true d n h = HidesNumber d.kind n d.exponent d.factor h

abbrev pub HidesAt : Demand → ℤ → Option Hidden → Type 0
HidesAt d n h = HidesBy (is_numeric d.kind) d n h

-- what there is to say is a number, or a total that leaves LINT's range; where the site has no such point nothing is hidden
abbrev pub HidesTotal : Option Demand → Option ℤ → Option Hidden → Type 0
HidesTotal None total h = h ≡ None
HidesTotal (Some d) None h = h ≡ Some hidden.OutOfType
HidesTotal (Some d) (Some n) h = HidesAt d n h

-- ---- a sum

abbrev pub has_none : Option ℤ → Bool
has_none None = true
has_none (Some n) = false

abbrev pub is_without : List Reading → ℕ → Bool
is_without readings i = has_none (option_and_then own_value (slice_get readings i))

-- the first part that has no value of its own
abbrev pub first_without : List Reading → List ℕ → Option ℕ
first_without readings parts = find (is_without readings) parts

-- one of the parts at least has a value of its own
abbrev pub is_with : List Reading → ℕ → Bool
is_with readings i = not (is_without readings i)

abbrev pub has_value : List Reading → List ℕ → Bool
has_value readings parts = list_any (is_with readings) parts

-- the first part, where none of them has a value of its own
abbrev pub first_of_none : List Reading → List ℕ → Option ℕ
first_of_none readings parts = if has_value readings parts then None else first_without readings parts

-- by a part for which there is no total
abbrev pub HidesWhole : Option Demand → Option ℤ → Option ℕ → Option Hidden → Type 0
HidesWhole d total (Some i) h = h ≡ Some (hidden.Part i)
HidesWhole d total None h = HidesTotal d total h

abbrev pub HidesSource : Site → List Reading → Served → Source → Option Hidden → Type 0
HidesSource site readings s (given.Sum parts) h = HidesWhole (demand_of_total site s parts) (total_of readings parts) (first_without readings parts) h
HidesSource site readings s (given.PartialSum parts) h = HidesWhole (demand_of_partial site s parts) (partial_total_of readings parts) (first_of_none readings parts) h
HidesSource site readings s (given.Raw n) h = h ≡ None
HidesSource site readings s (given.Text text) h = h ≡ None

abbrev pub HidesEntry : Site → List Reading → Option Served → Option Hidden → Type 0
HidesEntry site readings None h = h ≡ None
HidesEntry site readings (Some s) h = HidesSource site readings s s.source h

-- ---- what the program stored in a `site` tag

abbrev pub HidesStored : Option Demand → Option ℤ → Option Hidden → Type 0
HidesStored d None h = h ≡ Some hidden.NotStored
HidesStored d (Some n) h = HidesTotal d (Some n) h

abbrev pub HidesAccess : Access → Site → Option ℤ → SiteTag → Option Hidden → Type 0
HidesAccess access.Shown site stored t h = HidesStored (demand_of_stored site t) stored h
HidesAccess access.Input site stored t h = h ≡ None
HidesAccess access.Output site stored t h = h ≡ None
HidesAccess access.Setting site stored t h = h ≡ None
HidesAccess access.Time site stored t h = h ≡ None

abbrev pub HidesTag : Site → Option ℤ → Option SiteTag → Option Hidden → Type 0
HidesTag site stored None h = h ≡ None
HidesTag site stored (Some t) h = HidesAccess t.access site stored t h

-- ---- the alarms

abbrev pub alarm_if : (Hidden → Alarm) → Option Hidden → List Alarm
alarm_if make None = []
alarm_if make (Some h) = make h ∷ []

-- of the first n: those of what is before the last one, and then the last one's, where it is hidden
abbrev pub AreHidden : (ℕ → Option Hidden → Type 0) → (ℕ → Hidden → Alarm) → ℕ → List Alarm → Type 0
AreHidden Hides make zero alarms = alarms ≡ []
AreHidden Hides make (suc n) alarms =
    (before : List Alarm) × (h : Option Hidden) × AreHidden Hides make n before × Hides n h × (alarms ≡ before ++ alarm_if (make n) h)

-- one for each of the first n entries of the site file whose sum isn't shown
abbrev pub AreSumsHidden : Site → List Reading → ℕ → List Alarm → Type 0
AreSumsHidden site readings n alarms = AreHidden (λ i h. HidesEntry site readings (slice_get site.served i) h) alarm.SumHidden n alarms

-- one for each of the first n tags that is a `site` tag and isn't shown
abbrev pub AreStoredHidden : Site → (outputs : List (Option ℤ)) → ℕ → List Alarm → Type 0
AreStoredHidden site outputs n alarms = AreHidden (λ i h. HidesTag site (known_at outputs i) (slice_get site.tags i) h) alarm.StoredHidden n alarms
