-- Devices that sleep at night, and what isn't wrong since they do. No standard says it; it is this project's.
use Rattle.std.specs.Prelude.{ℕ, ◌*◌, ◌-◌, Bool, true, false, not, ◌&&◌, nat_lt, List, Option, Some, None, option_and_then, slice_get, if◌then◌else◌}
use Rattle.std.specs.List.{flat_map}
use Rattle.std.specs.Option.{option_map_or}
use Rattle.site_model.specs.declared.site.Site.{Site}
use Rattle.site_model.specs.declared.tag.SiteTag.{SiteTag}
use Rattle.service_alarms.specs.declared.alarm.Alarm.{Alarm}
use Rattle.service_alarms.specs.declared.alarm.Alarm.TheVariants as alarm
use Rattle.service_alarms.specs.declared.alarm.Hidden.{Hidden}
use Rattle.service_alarms.specs.declared.alarm.Hidden.TheVariants as hidden
use Rattle.service_alarms.specs.declared.sleeping.Sleep.{Sleep}
use Rattle.service_alarms.specs.declared.sleeping.Slept.{Slept}
use Rattle.service_alarms.specs.declared.sleeping.Slept.TheVariants as slept
use Rattle.service_alarms.specs.Alarms.{one_if}

-- ---- which devices sleep

-- since when it is gone, if it is: since the first look at which it was
abbrev pub gone_since : Bool → ℕ → Option ℕ → Option ℕ
gone_since false now since = None
gone_since true now None = Some now
gone_since true now (Some since) = Some since

abbrev pub is_gone_within : ℕ → ℕ → ℕ → Bool
is_gone_within hours since now = nat_lt (now - since) (hours * 3600)

-- it sleeps where it is gone, for less than its hours
abbrev pub is_asleep : Option ℕ → Option ℕ → ℕ → Bool
is_asleep (Some hours) (Some since) now = is_gone_within hours since now
is_asleep (Some hours) None now = false
is_asleep None since now = false

-- by whether it is gone now
abbrev pub seen : Bool → ℕ → Sleep → Sleep
seen is_gone now s = record {
  hours = s.hours;
  since = gone_since is_gone now s.since;
  is_asleep = is_asleep s.hours (gone_since is_gone now s.since) now;
}

-- What is told: that it sleeps from now on, or that it is gone and doesn't sleep any more.
abbrev pub news : (is_gone was_asleep is_asleep : Bool) → Option Slept
news is_gone was_asleep sleeps =
    if sleeps && not was_asleep then Some slept.Asleep
    else (if is_gone && was_asleep && not sleeps then Some slept.Overdue else None)

-- ---- what isn't wrong since they sleep

abbrev pub device_of_tag : Site → ℕ → Option ℕ
device_of_tag site i = option_and_then (λ (t : SiteTag). t.device) (slice_get site.tags i)

abbrev pub device_of_output : Site → ℕ → Option ℕ
device_of_output site o = option_and_then (device_of_tag site) (slice_get site.outs o)

-- the device of the first part of a sum that is missing
abbrev pub device_hidden : Site → Hidden → Option ℕ
device_hidden site (hidden.Part i) = device_of_tag site i
device_hidden site hidden.NotStored = None
device_hidden site hidden.BadScale = None
device_hidden site hidden.Inexact = None
device_hidden site hidden.OutOfType = None

-- the device that is gone, where an alarm is of it or of what it gives and takes; another device isn't gone
abbrev pub device_of : Site → Alarm → Option ℕ
device_of site (alarm.DeviceLost i why) = Some i
device_of site (alarm.DeviceUnmapped i) = Some i
device_of site (alarm.DeviceAnother i) = None
device_of site (alarm.ModelMissing w) = None
device_of site (alarm.InputMissing i why) = device_of_tag site i
device_of site (alarm.OutputUnwritten o why) = device_of_output site o
device_of site (alarm.OutputDiffers o difference) = device_of_output site o
device_of site (alarm.SetLapsed i) = None
device_of site (alarm.NeverSet i) = None
device_of site (alarm.SumHidden i why) = device_hidden site why
device_of site (alarm.StoredHidden i why) = None
device_of site alarm.RoundLate = None
device_of site alarm.StateUnwritten = None
device_of site alarm.ProgramRefused = None

-- of each device, whether it sleeps
abbrev pub sleeps_at : List Bool → ℕ → Bool
sleeps_at asleep device = option_map_or (λ (b : Bool). b) (slice_get asleep device) false

abbrev pub is_of_sleeper : Site → List Bool → Alarm → Bool
is_of_sleeper site asleep a = option_map_or (sleeps_at asleep) (device_of site a) false

abbrev pub of_awake : Site → List Bool → Alarm → List Alarm
of_awake site asleep a = one_if (not (is_of_sleeper site asleep a)) a

-- those that don't follow from the sleep of a device
abbrev pub awake : Site → List Bool → List Alarm → List Alarm
awake site asleep alarms = flat_map (of_awake site asleep) alarms
