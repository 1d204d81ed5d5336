-- What changed from the alarms that stood to a list of alarms, and since when each stands. No standard says it; it is this
-- project's.
use Rattle.std.specs.Prelude.{◌≡◌, ◌⊎◌, ℕ, zero, suc, List, [], ◌∷◌, ◌++◌, length, Option, Some, None, slice_get}
use Rattle.service_alarms.specs.declared.alarm.Alarm.{Alarm}
use Rattle.service_alarms.specs.declared.alarm.Alarm.TheVariants as alarm
use Rattle.service_alarms.specs.declared.alarm.AlarmSubject.{AlarmSubject}
use Rattle.service_alarms.specs.declared.alarm.AlarmSubject.TheVariants as subject
use Rattle.service_alarms.specs.declared.standing.StandingAlarm.{StandingAlarm}

-- what an alarm is of, whatever its cause
abbrev pub subject_of : Alarm → AlarmSubject
subject_of (alarm.DeviceLost i why) = subject.Device i
subject_of (alarm.DeviceUnmapped i) = subject.Device i
subject_of (alarm.DeviceAnother i) = subject.Device i
subject_of (alarm.ModelMissing w) = subject.Model w
subject_of (alarm.InputMissing i why) = subject.Input i
subject_of (alarm.OutputUnwritten i why) = subject.Output i
subject_of (alarm.OutputDiffers i difference) = subject.ReadBack i
subject_of (alarm.SetLapsed i) = subject.Set i
subject_of (alarm.NeverSet i) = subject.Set i
subject_of (alarm.SumHidden i why) = subject.Sum i
subject_of (alarm.StoredHidden i why) = subject.Stored i
subject_of alarm.RoundLate = subject.Rounds
subject_of alarm.StateUnwritten = subject.State
subject_of alarm.ProgramRefused = subject.Program

-- one of them stood, with this very cause
abbrev pub Stood : List StandingAlarm → Alarm → Type 0
Stood [] a = ⊥
Stood (s ∷ ss) a = (s.alarm ≡ a) ⊎ Stood ss a

-- one of them is of this subject
abbrev pub AreOf : List Alarm → AlarmSubject → Type 0
AreOf [] x = ⊥
AreOf (a ∷ more) x = (subject_of a ≡ x) ⊎ AreOf more x

-- ---- those that a list has more

-- one that isn't left out is appended
abbrev pub OneMore : Type 0 → Alarm → (before now : List Alarm) → Type 0
OneMore IsOut a before now = (IsOut × (now ≡ before)) ⊎ ((IsOut → ⊥) × (now ≡ before ++ a ∷ []))

-- begun are those of the alarms, in order, that didn't stand with this very cause: of the first n
abbrev pub NextBegun : List StandingAlarm → Option Alarm → (before now : List Alarm) → Type 0
NextBegun stood None before now = now ≡ before
NextBegun stood (Some a) before now = OneMore (Stood stood a) a before now

abbrev pub AreBegun : List StandingAlarm → List Alarm → ℕ → List Alarm → Type 0
AreBegun stood alarms zero begun = begun ≡ []
AreBegun stood alarms (suc n) begun = (before : List Alarm) × AreBegun stood alarms n before × NextBegun stood (slice_get alarms n) before begun

-- over are those that stood, in order, of whose subject there is no alarm: of the first n
abbrev pub NextOver : List Alarm → Option StandingAlarm → (before now : List Alarm) → Type 0
NextOver alarms None before now = now ≡ before
NextOver alarms (Some s) before now = OneMore (AreOf alarms (subject_of s.alarm)) s.alarm before now

abbrev pub AreOver : List StandingAlarm → List Alarm → ℕ → List Alarm → Type 0
AreOver stood alarms zero over = over ≡ []
AreOver stood alarms (suc n) over = (before : List Alarm) × AreOver stood alarms n before × NextOver alarms (slice_get stood n) before over

-- ---- since when

-- since when one of this subject stood, the first in the list, or from now on
abbrev pub IsSince : List StandingAlarm → (now : ℕ) → AlarmSubject → (since : ℕ) → Type 0
IsSince [] now x since = since ≡ now
IsSince (s ∷ ss) now x since = ((subject_of s.alarm ≡ x) × (since ≡ s.since)) ⊎ ((subject_of s.alarm ≡ x → ⊥) × IsSince ss now x since)

-- these alarms stand, in order, each since then: of the first n
abbrev pub NextStanding : List StandingAlarm → (now : ℕ) → Option Alarm → (before after : List StandingAlarm) → Type 0
NextStanding stood now None before after = after ≡ before
NextStanding stood now (Some a) before after = (since : ℕ) × IsSince stood now (subject_of a) since × (after ≡ before ++ (record { alarm = a; since = since }) ∷ [])

abbrev pub AreStanding : List StandingAlarm → List Alarm → (now : ℕ) → ℕ → List StandingAlarm → Type 0
AreStanding stood alarms now zero standing = standing ≡ []
AreStanding stood alarms now (suc n) standing =
    (before : List StandingAlarm) × AreStanding stood alarms now n before × NextStanding stood now (slice_get alarms n) before standing

-- what is told of it
pub record IsChange (stood : List StandingAlarm) (alarms begun over : List Alarm) : Type 0 where
  pub are_begun : AreBegun stood alarms (length alarms) begun
  pub are_over : AreOver stood alarms (length stood) over
