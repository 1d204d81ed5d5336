-- All that is wrong at a site, one alarm each. No standard says what is told; it is this project's.
use Rattle.std.specs.Prelude.{◌≡◌, ℕ, ◌+◌, Bool, true, false, not, ◌&&◌, ◌||◌, List, [], ◌∷◌, ◌++◌, length, Option, Some, None, slice_get, if◌then◌else◌}
use Rattle.std.specs.List.{flat_map}
use Rattle.point_types.specs.declared.reading.Reading.{Reading}
use Rattle.point_types.specs.declared.reading.Reading.TheVariants as reading
use Rattle.register_map.specs.declared.layout.Block.{Block}
use Rattle.register_map.specs.Layout.{Layout, block_of}
use Rattle.site_model.specs.declared.access.Access.{Access}
use Rattle.site_model.specs.declared.access.Access.TheVariants as access
use Rattle.site_model.specs.declared.tag.SiteTag.{SiteTag}
use Rattle.site_model.specs.declared.want.Want.{Want}
use Rattle.site_model.specs.Readings.{known_at}
use Rattle.gateway.specs.event_core.SiteRun.{has_lapsed}
use Rattle.gateway.specs.event_core.Core.{Gateway}
use Rattle.service.specs.declared.read_back.Difference.{Difference}
use Rattle.service.specs.declared.output.OutputState.{OutputState}
use Rattle.service.specs.declared.output.OutputState.TheVariants as state
use Rattle.service.specs.declared.status.DeviceStatus.{DeviceStatus}
use Rattle.service_alarms.specs.Hiding.{AreStoredHidden, AreSumsHidden}
use Rattle.service_alarms.specs.declared.alarm.Alarm.{Alarm}
use Rattle.service_alarms.specs.declared.alarm.Alarm.TheVariants as alarm

-- what each item of a list makes with its number, from this number on
abbrev pub of_each : {X : Type 0} → (ℕ → X → List Alarm) → ℕ → List X → List Alarm
of_each f i [] = []
of_each f i (x ∷ xs) = f i x ++ of_each f (i + 1) xs

-- an alarm, where it holds
abbrev pub one_if : Bool → Alarm → List Alarm
one_if holds a = if holds then a ∷ [] else []

-- ---- devices: one that is lost, or else is another one than the site file says, or else has no map

-- whether it is lost, and no other one has answered in its place over a connection that is up
abbrev pub is_missing : DeviceStatus → Bool
is_missing d = d.is_lost && not (d.is_another && d.is_up)

abbrev pub of_device : ℕ → DeviceStatus → List Alarm
of_device i d =
    if is_missing d then alarm.DeviceLost i d.last_loss ∷ []
    else (if d.is_another then alarm.DeviceAnother i ∷ [] else (if d.is_mapped then [] else alarm.DeviceUnmapped i ∷ []))

-- whether it has one of these
abbrev pub is_amiss : DeviceStatus → Bool
is_amiss d = d.is_lost || d.is_another || not d.is_mapped

-- whether it is gone, as one that sleeps is: another one answers
abbrev pub is_gone : DeviceStatus → Bool
is_gone d = is_missing d || (not d.is_another && not d.is_mapped)

abbrev pub devices_amiss : List DeviceStatus → List Alarm
devices_amiss devices = of_each of_device 0 devices

-- ---- models: one that the site wants of a device whose map has no block of it

abbrev pub has_no : Option Block → Bool
has_no None = true
has_no (Some block) = false

abbrev pub is_lacking_in : ℕ → Option (Option Layout) → Bool
is_lacking_in model (Some (Some map)) = has_no (block_of map model)
is_lacking_in model (Some None) = false
is_lacking_in model None = false

abbrev pub is_lacking : List (Option Layout) → Want → Bool
is_lacking maps w = is_lacking_in w.model (slice_get maps w.device)

abbrev pub of_want : List (Option Layout) → Want → List Alarm
of_want maps w = one_if (is_lacking maps w) (alarm.ModelMissing w)

abbrev pub models_missing : List (Option Layout) → List Want → List Alarm
models_missing maps wants = flat_map (of_want maps) wants

-- ---- inputs: an `in` tag that had no value of its own, which a default isn't

abbrev pub of_reading : ℕ → Option Reading → List Alarm
of_reading i (Some (reading.Value n)) = []
of_reading i (Some (reading.Default n why)) = alarm.InputMissing i why ∷ []
of_reading i (Some (reading.Absent why)) = alarm.InputMissing i why ∷ []
of_reading i None = []

abbrev pub of_access : Access → ℕ → Option Reading → List Alarm
of_access access.Input i r = of_reading i r
of_access access.Output i r = []
of_access access.Setting i r = []
of_access access.Shown i r = []
of_access access.Time i r = []

abbrev pub of_input : List Reading → ℕ → SiteTag → List Alarm
of_input readings i t = of_access t.access i (slice_get readings i)

abbrev pub inputs_missing : List Reading → List SiteTag → List Alarm
inputs_missing readings tags = of_each (of_input readings) 0 tags

-- ---- outputs: one that isn't written

abbrev pub of_output : ℕ → Option OutputState → List Alarm
of_output i (Some (state.Unwritten why)) = alarm.OutputUnwritten i why ∷ []
of_output i (Some state.Written) = []
of_output i None = []

abbrev pub outputs_unwritten : List (Option OutputState) → List Alarm
outputs_unwritten outputs = of_each of_output 0 outputs

-- ---- outputs that their devices show otherwise than they took them

abbrev pub of_difference : ℕ → Option Difference → List Alarm
of_difference i (Some difference) = alarm.OutputDiffers i difference ∷ []
of_difference i None = []

abbrev pub outputs_differing : List (Option Difference) → List Alarm
outputs_differing differences = of_each of_difference 0 differences

-- ---- set values: one that has lapsed, since no client wrote it again in its time; or one that lapses and was never set

-- Where it was set, its age says whether it has lapsed. Where it was not, neither since the start nor before, what had been set at the
-- start, so many milliseconds ago, would have lapsed by now.
abbrev pub of_age : (lapse : Option ℕ) → (running : ℕ) → ℕ → (age : Option ℕ) → List Alarm
of_age lapse running i (Some age) = one_if (has_lapsed lapse (Some age)) (alarm.SetLapsed i)
of_age lapse running i None = one_if (has_lapsed lapse (Some running)) (alarm.NeverSet i)

abbrev pub of_setting : (running : ℕ) → List (Option ℕ) → ℕ → SiteTag → List Alarm
of_setting running ages i t = of_age t.lapse running i (known_at ages i)

abbrev pub sets_missing : (running : ℕ) → (ages : List (Option ℕ)) → List SiteTag → List Alarm
sets_missing running ages tags = of_each (of_setting running ages) 0 tags

-- ---- all of them, each kind in the site's order

-- of the devices, their models, the inputs, the outputs and what clients set
abbrev pub wrong_beside : Gateway → List DeviceStatus → List (Option OutputState) → List (Option Difference) → (running : ℕ) → List Alarm
wrong_beside core devices outputs differences running =
    devices_amiss devices
    ++ models_missing core.maps core.site.wants
    ++ inputs_missing core.standing.last.readings core.site.tags
    ++ outputs_unwritten outputs
    ++ outputs_differing differences
    ++ sets_missing running core.standing.ages core.site.tags

-- of the service itself
abbrev pub wrong_itself : (is_late is_unkept is_refused : Bool) → List Alarm
wrong_itself is_late is_unkept is_refused = one_if is_late alarm.RoundLate ++ one_if is_unkept alarm.StateUnwritten ++ one_if is_refused alarm.ProgramRefused

-- the sums and the `site` tags that clients aren't shown
pub record AreServedMissing (core : Gateway) (alarms : List Alarm) : Type 0 where
  pub sums : List Alarm
  pub stored : List Alarm
  pub are_sums : AreSumsHidden core.site core.standing.last.readings (length core.site.served) sums
  pub are_stored : AreStoredHidden core.site core.standing.last.outputs (length core.site.tags) stored
  pub all : alarms ≡ sums ++ stored

-- all that is wrong so many milliseconds after the start, and nothing else
pub record IsAllWrong (core : Gateway) (devices : List DeviceStatus) (outputs : List (Option OutputState)) (differences : List (Option Difference)) (running : ℕ) (is_late is_unkept is_refused : Bool) (alarms : List Alarm) : Type 0 where
  pub served : List Alarm
  pub are_served : AreServedMissing core served
  pub all : alarms ≡ wrong_beside core devices outputs differences running ++ served ++ wrong_itself is_late is_unkept is_refused

-- what of that the core alone says of numbers
pub record IsAllMissing (core : Gateway) (alarms : List Alarm) : Type 0 where
  pub served : List Alarm
  pub are_served : AreServedMissing core served
  pub all : alarms ≡ inputs_missing core.standing.last.readings core.site.tags ++ served
